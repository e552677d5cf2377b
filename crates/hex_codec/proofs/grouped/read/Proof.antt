-- `read` reads, and then lends the front.
use Rattle.hex_core.proofs.SliceWalk.Kit.{refl, List, [], ◌∷◌, length, named, erased, Val, id⊢, GName, ftrue}
use Rattle.hex_core.proofs.SliceWalk.Kit.{flft, full_share, ‵, ◌⊛◌, some, later, Sq, prop, ◌$◌, ◌∵◌, !, qed}
use Rattle.hex_core.proofs.SliceWalk.Kit.{move, keep, drop, split, split3, join, fsplit, fsplit3, fjoin, feq_i}
use Rattle.hex_core.proofs.SliceWalk.Kit.{use1, use2, await, pick, suffices, frame, done, whole, sub, agg, stop}
use Rattle.hex_core.proofs.SliceWalk.Kit.{fld, hop, from, addr, and_then, no_more, enter, alloc_all, pass_all}
use Rattle.hex_core.proofs.SliceWalk.Kit.{look_in_at, get, get_in, sets, lft_new, lft_end, kept_f, sl_relend}
use Rattle.hex_core.proofs.SliceWalk.Kit.{BareSlice, u8, yes, no, owns, plain, ShrSlice, MutSlice, Room}
use Rattle.hex_core.proofs.SliceWalk.Kit.{shr_slice_vals, shr_slice_Tells, mut_slice_vals, mut_slice_Tells}
use Rattle.hex_core.proofs.SliceWalk.Kit.{nothing, heard, Goes-dropped, Goes-spent_slice, Stays, ends_at, says}
use Rattle.hex_core.proofs.SliceWalk.Kit.{stay_dropped, walk_of, proved, LendsAnswer}
use Rattle.hex_core.proofs.SliceWalk.Types.{Known, Lent, Policy, calls, typed, vals}
use Rattle.hex_core.proofs.SliceWalk.{Source, Target, fills_writes, front_or_refusal}
use Rattle.hex_codec.specs.contracts.group.Group as GR
use Rattle.hex_codec.proofs.group.Group.TheLaws as GL
use Rattle.hex_codec.specs.contracts.grouped.GroupFault as FR
use Rattle.hex_codec.proofs.grouped.GroupFault.TheLaws as FL
use Rattle.hex_codec.specs.GroupCalls.{Reads, ReadsFront}
use Rattle.hex_codec.specs.contracts.grouped.read_front as g
use Rattle.hex_codec.proofs.grouped.read_front.Met as g_met
use Rattle.hex_codec.specs.contracts.grouped.read as f
use Rattle.hex_codec.proofs.grouped.read.Statement.{statement}
use Rattle.hex_codec.proofs.grouped.read.Code as code

abbrev Grouping : Known
Grouping = record { row = GR.the_row; laws = GL.the_row_laws; told = GL.the_told }

abbrev Fault : Known
Fault = record { row = FR.the_row; laws = FL.the_row_laws; told = FL.the_told }

abbrev stayed : Stays f.ended.signature.params f.ended.kept
stayed = (stay_dropped Source yes, (stay_dropped Target no, (stay_dropped (plain (λ _. Grouping.row)) yes, (stay_dropped (plain (λ _. Policy.row)) yes, tt))))

pub read_spec : {M : Type 1} → statement M
read_spec 𝓤 𝓛 𝓜 𝓡 wired =
    let c = f.clauses 𝓛 𝓜.mem 𝓡.returns in
    proved 𝓛 f.ended stayed c 𝓜 𝓡 (Goes-dropped 𝓛 2 Source yes (λ κs x f. refl), (Goes-spent_slice 𝓛 2 (1 ∷ []) tt (plain (λ _. u8)), (Goes-dropped 𝓛 2 (plain (λ _. Grouping.row)) yes (λ κs x f. refl), (Goes-dropped 𝓛 2 (plain (λ _. Policy.row)) yes (λ κs x f. refl), tt))))
    f.Key.name code.function (code.unfolded 𝓤 𝓛.H 𝓜 𝓡 wired)
    (λ κs. (shr_slice_vals, (mut_slice_vals, (vals Grouping, (vals Policy, tt)))))
    (λ κs. (shr_slice_Tells (named 0) κs.0 u8, (mut_slice_Tells (named 1) κs.1.0 u8, (Grouping.told.tells, (Policy.told.tells, tt)))))
    (λ κs qs bounds a g₀ are.
    let κ₀ = κs.0 in let κ = κs.1.0 in let q₀ = qs.0 in let q = qs.1.0 in
    let src = a.0 in let dst = a.1.0 in let group = a.1.1.0 in let case = a.1.1.1.0 in let s = src.now in let xs = dst.now in
    let b = dst.ref_ptr.0 in let o = dst.ref_ptr.1 in let γ = dst.ghost_name in
    let rs : Room u8 (length s) = are.0.0.1 in let rm : Room u8 (length xs) = are.1.0.0.1 in
    let W = walk_of 𝓛 f.ended stayed c in
    let y : W.Ghost = ((κs, qs, bounds, a, (shr_slice_vals src, (mut_slice_vals dst, (vals Grouping group, (vals Policy case, tt))))), g₀) in
    let ends : (w : Val) (r : (Lent Fault (named 1) κ).row.Denot) → ReadsFront case group s (length xs) r → Sq 𝓛 (‵ ((Lent Fault (named 1) κ).row.own_val r (w ∷ [])) ∷ ‵ (LendsAnswer dst r) ∷ ‵ (flft κ q) ∷ ‵ (flft κ₀ q₀) ∷ []) (prop (W.post y w)) = λ w r answer.
    nothing ! $ move ! (3 ∷ 0 ∷ []) $ join ! $ move ! (3 ∷ 0 ∷ []) $ join ! $ move ! (1 ∷ 0 ∷ []) $
    suffices ! _ (ends_at 𝓛 f.ended stayed c y w r (tt, (tt, (tt, (tt, tt)))) (tt, (tt, (tt, (tt, tt))))) $
    nothing ! $ nothing ! $ fjoin ! $ nothing ! $ fjoin ! $ nothing ! $ fjoin ! $ nothing ! $ fjoin ! $ join ! $ move ! (1 ∷ 0 ∷ []) $ join ! $ frame ! $
    says ! answer $ done ! in
    qed 𝓛 (((‵ (flft κ₀ q₀) ⊛ ‵ (flft κ q) ⊛ ‵ ftrue) ⊛ ‵ (owns (ShrSlice (named 0) κ₀ u8 ∷ MutSlice (named 1) κ u8 ∷ Grouping.row ∷ Policy.row ∷ []) a y.0.4))
    ∷ ‵ ftrue ∷ []) ∵
    split ! $ split3 ! $ move ! (3 ∷ []) $ fsplit3 ! $ move ! (2 ∷ []) $ fsplit3 ! $ keep ! (3 ∷ 4 ∷ 5 ∷ 6 ∷ 0 ∷ 1 ∷ []) $
    enter ! _ _ _ _ _ $ alloc_all ! (λ l. pass_all ! refl ((tt, (tt, (record { fits = rs.0 }, tt))), ((tt, (tt, (record { fits = rm.0 }, tt))), (typed Grouping 𝓛 group _ are.1.1.0, (typed Policy 𝓛 case _ are.1.1.1.0, tt)))) $
    -- [the source; the destination; the two tokens; the group; the policy; the locals]
    sets ! (addr ! (from ! (fld ! refl (hop ! (look_in_at ! 2 (sub ! 0 refl (whole !))) (stop !))))) refl (tt, tt) $
    sets ! (agg ! (and_then ! (get ! refl) (and_then ! (get_in ! (fld ! refl (stop !)) (sub ! 1 refl (whole !))) (no_more !)))) refl
    (tt, (tt, (record { fits = rm.0 }, tt))) $
    lft_new ! tt (λ α. move ! (2 ∷ []) $ fsplit ! $ fsplit ! $ drop ! $ fjoin ! $ move ! (0 ∷ 4 ∷ []) $
    use2 𝓛 (later (some (λ (δ : GName). ‵ ((BareSlice erased (α ∷ []) u8).own_val (record dst { ghost_name = δ })) ⊛ kept_f 𝓛 u8 κ q (α ∷ []) γ δ xs b o)))
    (sl_relend 𝓛 u8 κ q (α ∷ []) b o γ xs) $ await ! tt $
    pick ! (λ δ. split ! $ fsplit ! $ feq_i ! (List Val) (mut_slice_vals dst) (mut_slice_vals dst) refl $ fjoin ! $ fjoin ! $
    -- [the slice for the call; what is kept; the token for the call; the source; its token; the group; the policy; the locals]
    nothing ! $ move ! (7 ∷ 0 ∷ []) $ fjoin ! $ move ! (6 ∷ 0 ∷ []) $ fjoin ! $ move ! (1 ∷ 0 ∷ []) $ fjoin ! $ move ! (3 ∷ 0 ∷ []) $ fjoin ! $
    nothing ! $ move ! (3 ∷ 0 ∷ []) $ join ! $ move ! (3 ∷ 0 ∷ []) $ join ! $ join ! $ nothing ! $ move ! (1 ∷ 0 ∷ []) $
    calls ! 𝓜 𝓡 g.ended (g.clauses 𝓛 𝓜.mem 𝓡.returns) (g_met.met 𝓤 𝓛 𝓜 𝓡 (code.calls-hex_codec::grouped::read_front 𝓡.env wired))
    (((κ₀, (α ∷ [], tt)), (q₀, (full_share, tt)), tt, (src, (record dst { ghost_name = δ }, (group, (case, tt)))), y.0.4), tt) (id⊢ 𝓤 _)
    (and_then ! (get ! refl) (and_then ! (get ! refl) (and_then ! (get ! refl) (and_then ! (get ! refl) (no_more !))))) (λ v u ws. let new = ws.1.0 in
    move ! (1 ∷ []) $ use1 𝓛 (‵ (flft κ₀ q₀) ⊛ ‵ (flft (α ∷ []) full_share) ⊛ ‵ ftrue) (id⊢ 𝓤 _) $ split3 ! $ move ! (1 ∷ []) $ lft_end ! tt $
    -- [the call's token is over; the token of the source; nothing; the number; the arguments at the end; what is said; what was kept; the locals]
    move ! (2 ∷ 5 ∷ []) $ drop ! $ heard ! (Reads case group s xs new u) (λ reads. move ! (3 ∷ []) $ fsplit ! $ drop ! $ fsplit ! $ fsplit ! $ fsplit ! $
    move ! (1 ∷ 2 ∷ 3 ∷ []) $ drop ! $ drop ! $ drop ! $ move ! (1 ∷ 4 ∷ 0 ∷ 3 ∷ []) $
    front_or_refusal Fault _ _ _ _ 𝓛 _ _ _ _ _ _ _ _ ! 2 l κ₀ κ q₀ q α δ dst new (ReadsFront case group s (length xs)) u (fills_writes _ _ xs new u reads) rm
    (λ n. addr ! (from ! (fld ! refl (hop ! (look_in_at ! 2 (sub ! 0 refl (whole !))) (stop !))))) ends))))))
