-- It counts the block, and gives it back to the inner allocator. Assumes `Logic`.
use Rattle.test_kit.proofs.RefusingKit.{◌≡◌, ℕ, ◌+◌, List, [], ◌∷◌, refl, w64, Args, a_type, dnil, dcons, Val, vunit}
use Rattle.test_kit.proofs.RefusingKit.{vint, vptr, inst_fn, id⊢, never, fst∗, ftrue, fsep, flft, size, align, capped}
use Rattle.test_kit.proofs.RefusingKit.{up, WpFn, sem, ‵, raw, ◌⊛◌, later, given, prop, ◌$◌, ◌∵◌, !, qed, move, keep}
use Rattle.test_kit.proofs.RefusingKit.{use1, split, split3, join, learn, fsplit, fjoin, feq_i, regoal, suffices, await}
use Rattle.test_kit.proofs.RefusingKit.{done, unit_lit, stop, fld, addr, no_more, and_then, of_opd, returns, enter}
use Rattle.test_kit.proofs.RefusingKit.{alloc_all, pass_all, free_all, look_at, get, through, sets, lands_as, ◌⊑◌}
use Rattle.test_kit.proofs.RefusingKit.{⊑_trans, fact, tables, usize, RawPtr, RefOf, yes, unhide, bounded, param}
use Rattle.test_kit.proofs.RefusingKit.{uint_vals, uint_Tells, owns, Ptr, block_ptr, null_ptr, ptr_val, in_a_block}
use Rattle.test_kit.proofs.RefusingKit.{rawptr_vals, rawptr_Tells, room_for, shr_vals, plain, types_at, heard, nothing}
use Rattle.test_kit.proofs.RefusingKit.{calls_at, framed, Stays, stay_dropped, walk_of, ends_at, Goes-dropped, Al, α}
use Rattle.test_kit.proofs.RefusingKit.{seen, token, Gives, at_gives, Gives-goes, Gives-Gives, proved, ap, some, drop}
use Rattle.test_kit.proofs.RefusingKit.{use2, pick, feq_l, unit, only, triple_of}
use Rattle.test_kit.proofs.refusing.releases.Met as releases
use Rattle.test_kit.specs.contracts.refusing.Refusing as refusing
use Rattle.test_kit.specs.contracts.refusing.releases as released
use Rattle.test_kit.specs.contracts.refusing.RefusingAllocator.deallocate as F
use Rattle.test_kit.proofs.refusing.RefusingAllocator.deallocate.Statement.{statement}
use Rattle.test_kit.proofs.refusing.RefusingAllocator.deallocate.Code as code

pub deallocate_spec : {M : Type 1} → statement M
deallocate_spec 𝓤 𝓛 𝓜 𝓡 wired B L g d d' met _ =
    let H = 𝓛.H in let 𝓣 = tables 𝓤 H 𝓜 𝓡 𝓡.env in
    let Z : Al = record { row = B; laws = L; g = g; d = d; drops = d' } in
    let inst : Args = bounded (a_type ∷ []) (B, tt) (dcons d (dcons d' dnil)) in let fn = inst_fn inst code.function in
    let T = F.ended B g d d' in let c = F.clauses B g d d' 𝓛 𝓜.mem 𝓡.returns in
    let self = RefOf (0 ∷ []) tt (plain (λ _. refusing.the_row (param 0 B))) (λ _. tt) in
    let word = plain (λ _. usize) in
    let hs : Stays T.signature.params T.kept = (stay_dropped self yes, (stay_dropped (plain (λ _. RawPtr)) yes, (stay_dropped word yes, (stay_dropped word yes, tt)))) in
    let W = walk_of 𝓛 T hs c in
    proved 𝓛 T hs c 𝓜 𝓡
    (Goes-dropped 𝓛 2 self yes (λ κs x f. refl), (Goes-dropped 𝓛 2 (plain (λ _. RawPtr)) yes (λ κs x f. refl), (Goes-dropped 𝓛 2 word yes (λ κs x f. refl), (Goes-dropped 𝓛 2 word yes (λ κs x f. refl), tt))))
    (F.Key.name inst) fn (code.unfolded 𝓤 H 𝓜 𝓡 wired (B, tt) d d')
    (λ κs. (shr_vals, (rawptr_vals, (uint_vals w64, (uint_vals w64, tt))))) (λ κs. ((λ r vs s. s.0), (rawptr_Tells, (uint_Tells w64, (uint_Tells w64, tt)))))
    (λ κs qs bounds a τ are.
    let κ = κs.0 in let q = qs.0 in let r = a.0 in let h = r.now.inner in let n = a.1.1.0 in let al = a.1.1.1.0 in
    let fn' = are.1.1.0.1 in let fa = are.1.1.1.0.1 in
    let p : ℕ × ℕ = (r.ref_ptr.0, r.ref_ptr.1 + up (align (α Z)) 0) in
    let p' : ℕ × ℕ = (r.ref_ptr.0, r.ref_ptr.1 + up 8 (up (align (α Z)) 0 + size (α Z))) in
    let Inside = κs.1.0 ⊑ B.lives in let Said = (capped (size τ) ≡ n) × (capped (align τ) ≡ al) in
    let y : Ptr → W.Ghost = λ x. ((κs, qs, bounds, (r, (x, (n, (al, tt)))), (shr_vals r, (rawptr_vals x, (vint w64 n ∷ [], (vint w64 al ∷ [], tt))))), τ) in
    let vs : Ptr → List Val = λ x. vptr r.ref_ptr.0 r.ref_ptr.1 ∷ ptr_val x ∷ vint w64 n ∷ vint w64 al ∷ [] in
    qed 𝓛 (((‵ (flft κ q) ⊛ ‵ (flft κs.1.0 qs.1.0) ⊛ ‵ ftrue) ⊛ ‵ (owns (types_at T.signature.params κs) a (y a.1.0).0.4)) ∷ (raw (fact 𝓤 Inside) ⊛ raw (fact 𝓤 Said) ⊛ ‵ (fsep (room_for τ a.1.0) (token Z h τ a.1.0))) ∷ []) ∵
    move ! (1 ∷ []) $ split3 ! $ heard ! Inside (λ inside. heard ! Said (λ said.
    in_a_block ! a.1.0 (λ x. fsep (room_for τ x) (token Z h τ x)) (fst∗ 𝓤 (never 𝓤) (sem 𝓛 (token Z h τ null_ptr))) (λ b o e.
    regoal ! (λ x. prop (WpFn 𝓤 H 𝓣.C 𝓣.Λ fn (vs x) (W.post (y x)))) e refl $
    let G = Gives Z 𝓛 𝓜.mem 𝓡.returns in let z : G.Ghost = at_gives Z 𝓛 𝓜.mem 𝓡.returns κ q p h b o n al τ in
    move ! (1 ∷ []) $ split ! $ split ! $ move ! (2 ∷ []) $ fsplit ! $ fsplit ! $ move ! (1 ∷ []) $ unhide ! $ fsplit ! $ fsplit ! $
    use1 𝓛 (‵ (seen Z κ p h)) (id⊢ 𝓤 _) $ move ! (1 ∷ []) $ fsplit ! $ keep ! (0 ∷ 6 ∷ 2 ∷ 7 ∷ 8 ∷ []) $
    -- [the `&` to `counts`; the token of its lifetime; the `&` to `inner`; the token of the parameter's; the block with the right to free it]
    enter ! _ _ _ _ _ $ alloc_all ! (λ l. pass_all ! refl ((tt, tt), ((tt, tt), ((tt, record { fits = fn' }), ((tt, record { fits = fa }), tt)))) $
    sets ! (addr ! (through ! refl (fld ! refl (stop !)))) refl (tt, tt) $
    -- the counts go to `releases` with the token, which comes back
    let Q = triple_of 𝓛 released.signature (released.spec 𝓛 𝓜.mem 𝓡.returns) in let counts = vptr p'.0 p'.1 in
    let x : Q.Ghost = (((κ, tt), (q, tt), tt, (record { ref_ptr = p'; now = r.now.counts }, tt), (counts ∷ [], tt)), tt) in
    feq_i ! (List Val) (counts ∷ []) (counts ∷ []) refl $ fjoin ! $ nothing ! $ move ! (1 ∷ 0 ∷ []) $ fjoin ! $
    nothing ! $ move ! (2 ∷ 0 ∷ []) $ join ! $ join ! $ nothing ! $ move ! (1 ∷ 0 ∷ []) $ use2 𝓛 (raw (Q.pre x)) (id⊢ 𝓤 _) $
    calls_at ! (framed 𝓤 H 𝓜 𝓣) Q (releases.met 𝓤 𝓛 𝓜 𝓡 (code.calls-test_kit::refusing::releases 𝓡.env wired)) x (and_then ! (get ! refl) (no_more !)) (λ u.
    use1 𝓛 (later (some (λ (t : Unit {0}). ((‵ (flft κ q) ⊛ ‵ ftrue) ⊛ ‵ (unit.own_val t (u ∷ [])))
    ⊛ some (λ (ws : Unit {0} × Unit {0}). ‵ (fsep ftrue ftrue) ⊛ ‵ ftrue)))) (id⊢ 𝓤 _) $ await ! tt $ pick ! (λ t.
    split ! $ move ! (1 ∷ []) $ drop ! $ split ! $ move ! (1 ∷ []) $ feq_l ! (λ is. split ! $ move ! (1 ∷ []) $ drop ! $
    lands_as ! (ap only is) refl (tt, tt) $ move ! (1 ∷ []) $
    sets ! (addr ! (through ! refl (fld ! refl (stop !)))) refl (tt, tt) $
    join ! $ move ! (2 ∷ []) $ fsplit ! $ move ! (1 ∷ 2 ∷ []) $ join ! $ move ! (1 ∷ 0 ∷ []) $ join ! $
    use1 𝓛 (raw (G.pre z)) (Gives-goes Z 𝓛 𝓜.mem 𝓡.returns κ q p h (⊑_trans κ κs.1.0 B.lives bounds.0 inside) b o n al τ said.0 said.1 fn' fa) $
    calls_at ! (framed 𝓤 H 𝓜 𝓣) G (met.deallocate d') z (and_then ! (get ! refl) (and_then ! (get ! refl) (and_then ! (get ! refl) (and_then ! (get ! refl) (no_more !))))) (λ v.
    use1 𝓛 (later (given (v ≡ vunit) (‵ (flft κ q)))) (Gives-Gives Z 𝓛 𝓜.mem 𝓡.returns κ q p h b o n al τ v) $ await ! tt $ learn ! (λ is_unit.
    lands_as ! is_unit refl (tt, tt) $ sets ! (of_opd ! (unit_lit !)) refl (tt, tt) $ returns ! (look_at ! 0 refl) $ free_all ! refl $
    suffices ! _ (ends_at 𝓛 T hs c (y (block_ptr b o)) vunit tt (tt, (tt, (tt, (tt, tt)))) (tt, (tt, (tt, (tt, tt))))) $
    nothing ! $ feq_i ! (List Val) (vunit ∷ []) (vunit ∷ []) refl $ nothing ! $ nothing ! $ fjoin ! $ nothing ! $ fjoin ! $ nothing ! $ fjoin ! $ nothing ! $
    fjoin ! $ join ! $
    move ! (2 ∷ 3 ∷ []) $ join ! $ join ! $ done !))))))))))
