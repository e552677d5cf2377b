-- It asks the counts, and then refuses or answers what the inner allocator answers. Assumes `Logic`.
use Rattle.test_kit.proofs.RefusingKit.{◌≡◌, ℕ, ◌+◌, Bool, true, false, List, [], ◌∷◌, Ok, Err, refl, ap, w64, Args}
use Rattle.test_kit.proofs.RefusingKit.{a_type, dnil, dcons, Val, vint, vptr, inst_fn, id⊢, ftrue, fsep, flft, size}
use Rattle.test_kit.proofs.RefusingKit.{align, capped, up, ‵, raw, ◌⊛◌, some, later, at_ret, Sq, prop, ◌$◌, ◌∵◌, !, qed}
use Rattle.test_kit.proofs.RefusingKit.{move, keep, drop, use0, use1, use2, split, join, pick, fsplit, fjoin, feq_i}
use Rattle.test_kit.proofs.RefusingKit.{feq_l, suffices, await, done, agg, lit, stop, fld, addr, un, no_more, and_then}
use Rattle.test_kit.proofs.RefusingKit.{first, branches, skips, exec, returns, returns_within, enter, alloc_all}
use Rattle.test_kit.proofs.RefusingKit.{pass_all, free_all, look_at, get, through, sets, lands_as, env, ◌⊑◌, ⊑_trans}
use Rattle.test_kit.proofs.RefusingKit.{fact, tables, bool, usize, RefOf, yes, unhide, bounded, param, uint_vals}
use Rattle.test_kit.proofs.RefusingKit.{uint_Tells, owns, block_ptr, shr_vals, plain, types_at, heard, nothing, only}
use Rattle.test_kit.proofs.RefusingKit.{calls_at, triple_of, framed, Stays, stay_dropped, walk_of, ends_at}
use Rattle.test_kit.proofs.RefusingKit.{Goes-dropped, Al, α, seen, Answer, answer_val, Answer-typed, Answer-Ok}
use Rattle.test_kit.proofs.RefusingKit.{Answer-err, Takes, at_takes, Answered, Takes-goes, Takes-gives, answers, proved}
use Rattle.test_kit.proofs.RefusingKit.{after}
use Rattle.test_kit.proofs.refusing.grants.Met as grants
use Rattle.test_kit.specs.contracts.refusing.Refusing as refusing
use Rattle.test_kit.specs.contracts.refusing.grants as asked
use Rattle.test_kit.specs.contracts.refusing.RefusingAllocator.allocate as F
use Rattle.test_kit.proofs.refusing.RefusingAllocator.allocate.Statement.{statement}
use Rattle.test_kit.proofs.refusing.RefusingAllocator.allocate.Code as code

pub allocate_spec : {M : Type 1} → statement M
allocate_spec 𝓤 𝓛 𝓜 𝓡 wired B L g d d' met _ =
    let H = 𝓛.H in let 𝓣 = tables 𝓤 H 𝓜 𝓡 𝓡.env in
    let Z : Al = record { row = B; laws = L; g = g; d = d; drops = d' } in
    let inst : Args = bounded (a_type ∷ []) (B, tt) (dcons d (dcons d' dnil)) in let fn = inst_fn inst code.function in
    let T = F.ended B g d d' in let c = F.clauses B g d d' 𝓛 𝓜.mem 𝓡.returns in
    let self = RefOf (0 ∷ []) tt (plain (λ _. refusing.the_row (param 0 B))) (λ _. tt) in
    let word = plain (λ _. usize) in
    let hs : Stays T.signature.params T.kept = (stay_dropped self yes, (stay_dropped word yes, (stay_dropped word yes, tt))) in
    let W = walk_of 𝓛 T hs c in
    proved 𝓛 T hs c 𝓜 𝓡
    (Goes-dropped 𝓛 2 self yes (λ κs x f. refl), (Goes-dropped 𝓛 2 word yes (λ κs x f. refl), (Goes-dropped 𝓛 2 word yes (λ κs x f. refl), tt)))
    (F.Key.name inst) fn (code.unfolded 𝓤 H 𝓜 𝓡 wired (B, tt) d d')
    (λ κs. (shr_vals, (uint_vals w64, (uint_vals w64, tt)))) (λ κs. ((λ r vs s. s.0), (uint_Tells w64, (uint_Tells w64, tt))))
    (λ κs qs bounds a τ are.
    let κ = κs.0 in let q = qs.0 in let r = a.0 in let h = r.now.inner in let n = a.1.0 in let al = a.1.1.0 in
    let fn' = are.1.0.1 in let fa = are.1.1.0.1 in
    let p : ℕ × ℕ = (r.ref_ptr.0, r.ref_ptr.1 + up (align (α Z)) 0) in
    let p' : ℕ × ℕ = (r.ref_ptr.0, r.ref_ptr.1 + up 8 (up (align (α Z)) 0 + size (α Z))) in
    let Inside = κs.1.0 ⊑ B.lives in let Said = (capped (size τ) ≡ n) × (capped (align τ) ≡ al) in
    let y : W.Ghost = ((κs, qs, bounds, (r, (n, (al, tt))), (shr_vals r, (vint w64 n ∷ [], (vint w64 al ∷ [], tt)))), τ) in
    let refuses : Sq 𝓛 (‵ (flft κ q) ∷ (‵ (flft κs.1.0 qs.1.0) ⊛ ‵ ftrue) ∷ []) (prop (W.post y (answer_val false 0 0))) =
    suffices ! _ (ends_at 𝓛 T hs c y (answer_val false 0 0) (Err (record {})) (tt, (tt, (tt, tt))) (tt, (tt, (tt, tt)))) $
    nothing ! $ use0 𝓛 (‵ (Answer.own_val (Err (record {})) (answer_val false 0 0 ∷ []))) (Answer-err 𝓛) $
    nothing ! $ nothing ! $ fjoin ! $ nothing ! $ fjoin ! $ nothing ! $ fjoin ! $ join ! $ move ! (2 ∷ 3 ∷ []) $ join ! $ join ! $ done ! in
    qed 𝓛 (((‵ (flft κ q) ⊛ ‵ (flft κs.1.0 qs.1.0) ⊛ ‵ ftrue) ⊛ ‵ (owns (types_at T.signature.params κs) a y.0.4)) ∷ (raw (fact 𝓤 Inside) ⊛ raw (fact 𝓤 Said)) ∷ []) ∵
    move ! (1 ∷ []) $ split ! $ heard ! Inside (λ inside. heard ! Said (λ said.
    split ! $ split ! $ move ! (2 ∷ []) $ fsplit ! $ fsplit ! $ move ! (1 ∷ []) $ unhide ! $ fsplit ! $ fsplit ! $
    use1 𝓛 (‵ (seen Z κ p h)) (id⊢ 𝓤 _) $ move ! (1 ∷ []) $ fsplit ! $ keep ! (0 ∷ 6 ∷ 2 ∷ 7 ∷ []) $
    -- [the `&` to `counts`; the token of the parameter's lifetime; the `&` to `inner`; the other token]
    enter ! _ _ _ _ _ $ alloc_all ! (λ l. pass_all ! refl ((tt, tt), ((tt, record { fits = fn' }), ((tt, record { fits = fa }), tt))) $
    sets ! (addr ! (through ! refl (fld ! refl (stop !)))) refl (tt, tt) $
    -- the counts go to `grants` with the token, which comes back beside a test
    let Q = triple_of 𝓛 asked.signature (asked.spec 𝓛 𝓜.mem 𝓡.returns) in let counts = vptr p'.0 p'.1 in
    let x : Q.Ghost = (((κ, tt), (q, tt), tt, (record { ref_ptr = p'; now = r.now.counts }, tt), (counts ∷ [], tt)), tt) in
    feq_i ! (List Val) (counts ∷ []) (counts ∷ []) refl $ fjoin ! $ nothing ! $ move ! (1 ∷ 0 ∷ []) $ fjoin ! $
    nothing ! $ move ! (2 ∷ 0 ∷ []) $ join ! $ join ! $ nothing ! $ move ! (1 ∷ 0 ∷ []) $ use2 𝓛 (raw (Q.pre x)) (id⊢ 𝓤 _) $
    calls_at ! (framed 𝓤 H 𝓜 𝓣) Q (grants.met 𝓤 𝓛 𝓜 𝓡 (code.calls-test_kit::refusing::grants 𝓡.env wired)) x (and_then ! (get ! refl) (no_more !)) (λ u.
    use1 𝓛 (later (some (λ (t : Bool). ((‵ (flft κ q) ⊛ ‵ ftrue) ⊛ ‵ (bool.own_val t (u ∷ [])))
    ⊛ some (λ (ws : Unit {0} × Unit {0}). ‵ (fsep ftrue ftrue) ⊛ ‵ ftrue)))) (id⊢ 𝓤 _) $ await ! tt $ pick ! (λ t.
    split ! $ move ! (1 ∷ []) $ drop ! $ split ! $ move ! (1 ∷ []) $ feq_l ! (λ is. split ! $ move ! (1 ∷ []) $ drop ! $
    lands_as ! (ap only is) refl (tt, tt) $ sets ! (un ! (get ! refl) tt) refl (tt, tt) $
    first ! $ branches ! (get ! refl)
    (λ refused. sets ! (agg ! (no_more !)) refl (tt, tt) $
    sets ! (agg ! (and_then ! (lit ! tt) (and_then ! (get ! refl) (no_more !)))) refl (Answer-typed false 0 0) $
    returns_within ! (W.post y) refl (look_at ! 0 refl) $ free_all ! refl $ keep ! (0 ∷ 2 ∷ []) $ refuses)
    (λ granted. skips ! $ exec ! 𝓣.C 𝓣.Λ (env fn.locals l) (after 4 fn.body) (at_ret _ (W.post y)) $ move ! (1 ∷ []) $
    sets ! (addr ! (through ! refl (fld ! refl (stop !)))) refl (tt, tt) $
    let G = Takes Z 𝓛 𝓜.mem 𝓡.returns in let z : G.Ghost = at_takes Z 𝓛 𝓜.mem 𝓡.returns κ q p h n al τ in
    use2 𝓛 (raw (G.pre z)) (Takes-goes Z 𝓛 𝓜.mem 𝓡.returns κ q p h (⊑_trans κ κs.1.0 B.lives bounds.0 inside) n al τ said.0 said.1 fn' fa) $
    calls_at ! (framed 𝓤 H 𝓜 𝓣) G (met.allocate d') z (and_then ! (get ! refl) (and_then ! (get ! refl) (and_then ! (get ! refl) (no_more !)))) (λ v.
    use1 𝓛 (later (raw (Answered Z 𝓛 𝓜.mem 𝓡.returns h τ v) ⊛ ‵ (flft κ q))) (Takes-gives Z 𝓛 𝓜.mem 𝓡.returns κ q p h n al τ v) $ await ! tt $ split ! $
    answers Z ! 𝓜.mem 𝓡.returns h τ v
    (λ b o found. fjoin ! $ lands_as ! found refl (Answer-typed true b o) $ returns ! (look_at ! 0 refl) $ free_all ! refl $
    suffices ! _ (ends_at 𝓛 T hs c y (answer_val true b o) (Ok (block_ptr b o)) (tt, (tt, (tt, tt))) (tt, (tt, (tt, tt)))) $
    use0 𝓛 (‵ (Answer.own_val (Ok (block_ptr b o)) (answer_val true b o ∷ []))) (Answer-Ok 𝓛 b o) $
    nothing ! $ nothing ! $ fjoin ! $ nothing ! $ fjoin ! $ nothing ! $ fjoin ! $ join ! $ move ! (2 ∷ 3 ∷ []) $ join ! $ join ! $ done !)
    (λ none. lands_as ! none refl (Answer-typed false 0 0) $ returns ! (look_at ! 0 refl) $ free_all ! refl $ refuses))))))))))
