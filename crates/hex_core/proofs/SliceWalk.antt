-- The walks by hand of the calls that lend a slice: under a plan one writes into its destination and lends the front, and
-- without a plan one hands on what the same call of the plain plan lends.
pub mod Fronts
pub mod Kit
pub mod Types
use Fronts.*
use Kit.*
use Types.*
use Rattle.std.proofs.Common.{◌+◌, drop as drop_list, Option, MatchResult}
use Rattle.std.proofs.lemmas.List.{length-append, length-drop}
use Rattle.std.proofs.lemmas.Grind.{common_steps}
use Rattle.hex_core.specs.Calls.{Answers, Fills}
use Rattle.hex_core.specs.Text.{with_front}
use Rattle.hex_core.specs.declared.error.Error.{Error}
use Rattle.hex_core.specs.contracts.backend.Backend.plain as p
use Rattle.hex_core.proofs.backend.Backend.plain.Symbol as p_symbol
use Rattle.hex_core.proofs.backend.Backend.plain.Met as p_met
use denote.Param.Laws.{param_laws}
use contract.Lifetimes.{Lfts}
use denote.Ref.{Bor}
use denote.Triple.Entry.{Args}
use types.Kit.{use0}

-- ---- what a call leaves that writes

-- a call leaves a front of so many bytes in its destination, and this is answered where that front is lent; or the
-- destination is as it was, and this is answered of the refusal
abbrev pub Writes : {E : Type 0} → (Result (MutBor (List ℕ)) E → Type 0) → List ℕ → List ℕ → Result ℕ E → Type 0
Writes Answered old new u = MatchResult u
    (λ n. (bytes : List ℕ) × (length bytes ≡ n) × (new ≡ with_front old bytes) × ((front : MutBor (List ℕ)) → front.now ≡ bytes → Answered (Ok front)))
    (λ e. (new ≡ old) × Answered (Err e))

-- a slice keeps its length, and so the front fits
pub front_fits : (old new bytes : List ℕ) → new ≡ with_front old bytes → length new ≡ length old → length bytes ≤ length old
front_fits old new bytes is same = grind (arith, common_steps)

pub fills_writes : {E : Type 0} (refusal : Option E) (Is : List ℕ → Type 0) (old new : List ℕ) (u : Result ℕ E) → Fills refusal Is old new u
    → Writes (Answers refusal (λ front. Is front.now)) old new u
fills_writes refusal Is old new (Ok n) h = (h.1.0, sym h.1.2, h.1.3, λ front e. (h.0, subst Is (sym e) h.1.1))
fills_writes refusal Is old new (Err e) h = (h.1, h.0)

-- ---- under a plan

-- the parameters that are slices
abbrev pub Source : Slot 2
Source = shr_slice_of (0 ∷ []) tt (plain (λ _. u8))

abbrev pub Target : Slot 2
Target = mut_slice_of (1 ∷ []) tt (plain (λ _. u8))

-- a function of two lifetimes
abbrev pub function_of : List (ℕ × ℕ) → ℕ → List Local → Body → Fn
function_of outlives params locals body = record {
  lifetimes = 2;
  outlives = outlives;
  ty_params = [];
  givens = 0;
  params = params;
  locals = locals;
  body = body;
}

abbrev address_local : Local
address_local = local (ty_ref erased mut (ty_int w8)) value_local

abbrev slice_local : Local
slice_local = local (lone (MutSlice erased [] u8).mir) value_local

abbrev rest : Body
rest = seq (assign (place 0 []) (rv_opd (copy (place 10 [])))) return

-- `&mut *dst`, which stands at this place
abbrev pub address : ℕ → Rv
address at = addr_of (place at (field 0 ∷ deref (ty_int w8) ∷ []))

-- the front is lent, or the refusal handed on
abbrev lend : ℕ → Body
lend at = switch (copy (place 7 (variant 0 ∷ field 0 ∷ [])))
    (arm (0 ∷ []) (seq (assign (place 5 []) (rv_opd (copy (place 7 (variant 0 ∷ field 1 ∷ []))))) (seq (assign (place 11 []) (address at))
    (seq (assign (place 12 []) (aggregate (copy (place 11 []) ∷ copy (place 5 []) ∷ []))) (assign (place 10 []) (aggregate (int w8 0 ∷ copy (place 12 []) ∷ []))))))
    (arm (1 ∷ []) (seq (assign (place 6 []) (rv_opd (copy (place 7 (variant 1 ∷ field 1 ∷ []))))) (assign (place 10 []) (aggregate (int w8 1 ∷ copy (place 6 []) ∷ [])))) no_default))

-- the locals of a call with four parameters of these types, over the type of its refusals
abbrev pub locals : Known → Ty → Ty → Ty → Ty → List Local
locals P τ₁ τ₂ τ₃ τ₄ = local (layout (Lent P (named 1) []).row) value_local ∷ local τ₁ value_local ∷ local τ₂ value_local ∷ local τ₃ value_local ∷ local τ₄ value_local
    ∷ local (ty_int w64) value_local ∷ local (layout P.row) value_local ∷ local (layout (Counted P).row) value_local ∷ address_local ∷ slice_local
    ∷ local (layout (Lent P erased []).row) value_local ∷ address_local ∷ slice_local ∷ []

-- such a call has written: its front is lent, or the refusal handed on
module _ (E : Known) (τ₁ τ₂ τ₃ τ₄ : Ty) {M : Type 1} {𝓤 : Ura M} (𝓛 : Logic 𝓤) (C : Calls 𝓤 𝓛.H) (Λ : Loops 𝓤 𝓛.H) (Q : Val → SProp 𝓤) (v₁ v₂ v₃ v₄ v : Val) {K : Type 0} (t : K)
    (at : ℕ) (l : ℕ → ℕ) (κ₀ κ : Lft) (q₀ q : Share) (α : ℕ) (δ : GName) (dst : MutBor (List ℕ)) (new : List ℕ)
    (Answered : Result (MutBor (List ℕ)) E.row.Denot → Type 0) where
  open 𝓛 use {H}

  abbrev P : Known
  P = record { row = param 0 E.row; laws = param_laws 0 E.row E.laws; told = record { val = E.told.val; tells = E.told.tells } }

  abbrev En : Env 𝓤 H
  En = env (locals P τ₁ τ₂ τ₃ τ₄) l

  -- the locals' entries, some of them beside the parameters
  abbrev having : List (ℕ × Val) → List (Item 𝓤)
  having others = holding 𝓛 En ((1, v₁) ∷ (2, v₂) ∷ (3, v₃) ∷ (4, v₄) ∷ (8, vptr dst.ref_ptr.0 dst.ref_ptr.1) ∷ (9, slice_val dst.ref_ptr (length dst.now)) ∷ others)

  -- the destination as it was left
  abbrev Left : Item 𝓤
  Left = ‵ ((BareSlice erased κ u8).own_val (record dst { now = new }))

  pub front_or_refusal : (u : Result ℕ E.row.Denot) → Writes Answered dst.now new u → Room u8 (length dst.now)
      → ((n : ℕ) → Gives K 𝓛 (Left ∷ ‵ (flft κ q) ∷ ‵ (flft κ₀ q₀) ∷ having ((7, ok_val (vint w64 n)) ∷ (5, vint w64 n) ∷ []))
      En (address at) (vptr dst.ref_ptr.0 dst.ref_ptr.1))
      → ((w : Val) (r : Result (MutBor (List ℕ)) E.row.Denot) → Answered r
      → Seq K 𝓛 (‵ ((Lent P (named 1) κ).row.own_val r (w ∷ [])) ∷ ‵ (LendsAnswer dst r) ∷ ‵ (flft κ q) ∷ ‵ (flft κ₀ q₀) ∷ []) (prop (Q w)))
      → Seq K 𝓛 (‵ (fdead (α ∷ [])) ∷ kept_f 𝓛 u8 κ q (α ∷ []) dst.ghost_name δ dst.now dst.ref_ptr.0 dst.ref_ptr.1 ∷ ‵ (finally u8 δ new) ∷ ‵ ((Counted P).row.own_val u (v ∷ []))
      ∷ ‵ (flft κ₀ q₀) ∷ having [])
      (lands C Λ En (place 7 []) v (seq (lend at) rest) (at_ret En Q))
  unfolding follows_by
  front_or_refusal (Ok n) wrote rm at_dst ends =
      let b = dst.ref_ptr.0 in let o = dst.ref_ptr.1 in let γ = dst.ghost_name in let xs = dst.now in let bytes = wrote.0 in let behind = drop_list (length bytes) xs in
      use3 𝓛 (later (given (length new ≡ length xs) (Left ⊛ ‵ (flft κ q)))) (sl_relent_backˡ 𝓛 u8 κ q (α ∷ []) b o γ δ xs new) $ await t tt $
      learn t (λ count. split t $ move t (2 ∷ []) $ peeks t (Counted P).row _ (shows 𝓛 (Counted P).row) (Ok n) (v ∷ []) (λ is.
      lands_as t (ap only ((Counted P).told.tells (Ok n) (v ∷ []) is)) refl (told_typed (Counted P) 𝓛 (Ok n) v is) $ drop t $
      let fits : length bytes ≤ length xs = front_fits xs new bytes wrote.2 count in let room : Room u8 (length bytes) = (omega arith, omega arith) in
      let fn : n < 2 ^ 64 = omega (arith, wrote.1) in
      -- [the destination; its token; the token of the source; the locals]
      first t $ by_variants t 13 (whole t) (get_tag t (vrt t refl (fld t refl (stop t))) (whole t)) tt (
        (λ _.
            sets t (of_opd t (get_in t (vrt t refl (fld t refl (stop t))) (in_variant t 0 0 refl refl (whole t)))) refl (tt, record { fits = fn }) $
            sets t (at_dst n) refl (tt, tt) $
            sets t (agg t (and_then t (get t refl) (and_then t (get t refl) (no_more t)))) refl (tt, (tt, (record { fits = fn }, tt))) $
            sets_last t (agg t (and_then t (lit t tt) (and_then t (get t refl) (no_more t)))) refl (tt, (record { fits = lit< tt }, ((tt, (record { fits = fn }, tt)), tt))) $
            exec t C Λ En rest (at_ret En Q) $ sets t (of_opd t (get t refl)) refl (tt, (record { fits = lit< tt }, ((tt, (record { fits = fn }, tt)), tt))) $
            use2 𝓛 (later (some (front_lent P.row (record dst { now = new }) bytes behind q κ (named 1) 𝓛 n)))
            (lends_front P.row (record dst { now = new }) bytes behind q κ (named 1) 𝓛 n wrote.1 wrote.2 room) $
            await t tt $ pick t (λ δ'. split3 t $
            let front : MutBor (List ℕ) = record dst { ghost_name = δ'; now = bytes } in
            returns t (look_at t 0 refl) $ free_all t refl $ move t (0 ∷ 2 ∷ []) $ ends (ok_val (slice_val (b, o) n)) (Ok front) (wrote.3 front refl))),
        ((λ e. absurd (omega arith)), tt),
      )))
  front_or_refusal (Err e) wrote rm at_dst ends =
      let b = dst.ref_ptr.0 in let o = dst.ref_ptr.1 in let γ = dst.ghost_name in let xs = dst.now in
      use3 𝓛 (later (given (length new ≡ length xs) (Left ⊛ ‵ (flft κ q)))) (sl_relent_backˡ 𝓛 u8 κ q (α ∷ []) b o γ δ xs new) $ await t tt $
      learn t (λ count. split t $ move t (2 ∷ []) $ peeks t (Counted P).row _ (shows 𝓛 (Counted P).row) (Err e) (v ∷ []) (λ is.
      let good = told_typed (Counted P) 𝓛 (Err e) v is in
      lands_as t (ap only ((Counted P).told.tells (Err e) (v ∷ []) is)) refl good $
      -- [the refusal; the destination; its token; the token of the source; the locals]
      first t $ by_variants t 14 (whole t) (get_tag t (vrt t refl (fld t refl (stop t))) (whole t)) tt (
        (λ x. absurd (omega arith)),
        (
          (λ _.
              sets t (of_opd t (get_in t (vrt t refl (fld t refl (stop t))) (in_variant t 1 0 refl refl (whole t)))) refl ((and_yes _ true good.0).0, good.1.1.0) $
              sets_last t (agg t (and_then t (lit t tt) (and_then t (get t refl) (no_more t)))) refl good $
              exec t C Λ En rest (at_ret En Q) $ sets t (of_opd t (get t refl)) refl good $
              rewrite t 0 (λ (w : Val). ‵ ((Counted P).row.own_val (Err e) (w ∷ []))) (ap only ((Counted P).told.tells (Err e) (v ∷ []) is)) refl $
              use1 𝓛 (‵ ((Lent P (named 1) κ).row.own_val (Err e) ((Counted P).told.val (Err e) ∷ []))) (id⊢ 𝓤 _) $ move t (1 ∷ []) $ fsplit3 t $ drop t $
              rewrite t 0 (λ (ys : List ℕ). ‵ (fobs γ ((coded_list u8.coded).code ys))) (heres_id u8 new ∙ wrote.0) refl $ name_done t tt $
              returns t (look_at t 0 refl) $ free_all t refl $ keep t (2 ∷ 0 ∷ 3 ∷ 4 ∷ []) $ ends ((Counted P).told.val (Err e)) (Err e) wrote.1),
          tt,
        ),
      )))

-- over the last parameter's type, what is written, and what is answered
module _ (X : Known) (Wrote : X.row.Denot → List ℕ → List ℕ → List ℕ → Result ℕ Error → Type 0)
    (Answered : X.row.Denot → List ℕ → ℕ → Result (MutBor (List ℕ)) Error → Type 0) where
  abbrev pub function : Callee → Fn
  function g =
      function_of [] 4 (locals Refusal (layout Plan.row) (layout (ShrSlice (named 0) [] u8)) (layout (MutSlice (named 1) [] u8)) (layout X.row))
      (seq (assign (place 8 []) (address 3)) (seq (assign (place 9 []) (aggregate (copy (place 8 []) ∷ copy (place 3 (field 1 ∷ [])) ∷ [])))
      (seq (call g (copy (place 1 []) ∷ copy (place 2 []) ∷ copy (place 9 []) ∷ copy (place 4 []) ∷ []) (place 7 [])) (seq (lend 3) rest))))

  abbrev pub Writing : Ended
  Writing = record {
    signature = record {
      lifetimes = 2;
      outlives = [];
      params = plain (λ _. Plan.row) ∷ Source ∷ Target ∷ plain (λ _. X.row) ∷ [];
      result = plain (λ _. (Counted Refusal).row);
    };
    kept = (yes, (yes, (yes, (yes, tt))));
  }

  abbrev pub Lending : Ended
  Lending = record { signature = record Writing.signature { result = plain (λ κs. (Lent Refusal (named 1) κs.1.0).row) }; kept = (yes, (yes, (no, (yes, tt)))) }

  abbrev stayed : Stays Lending.signature.params Lending.kept
  stayed = (stay_dropped (plain (λ _. Plan.row)) yes, (stay_dropped Source yes, (stay_dropped Target no, (stay_dropped (plain (λ _. X.row)) yes, tt))))

  module _ {M : Type 1} {𝓤 : Ura M} (𝓛 : Logic 𝓤) where
    -- what is promised where a slice is lent
    abbrev pub Promises : X.row.Denot → Bor (List ℕ) → MutBor (List ℕ) → Result (MutBor (List ℕ)) Error → SProp 𝓤
    Promises x src dst r = sep 𝓤 (sem 𝓛 (LendsAnswer dst r)) (fact 𝓤 (Answered x src.now (length dst.now) r))

    abbrev pub writes : Clauses 𝓤 Writing
    writes κs a = record { ghost = Unit {0}; requires = λ _. emp 𝓤; ensures = λ _ u e. fact 𝓤 (Wrote a.1.1.1.0 a.1.0.now a.1.1.0.now e.1.1.0.now u) }

    abbrev pub lends : Clauses 𝓤 Lending
    lends κs a = record { ghost = Unit {0}; requires = λ _. emp 𝓤; ensures = λ _ r _. Promises a.1.1.1.0 a.1.0 a.1.1.0 r }

  pub writes_and_lends : ((x : X.row.Denot) (s old new : List ℕ) (u : Result ℕ Error) → Wrote x s old new u → Writes (Answered x s (length old)) old new u)
      → {M : Type 1} (𝓤 : Ura M) (𝓛 : Logic 𝓤) (𝓜 : Model 𝓤 𝓛.H) (𝓡 : Running 𝓤 𝓛.H 𝓜)
      (silent : Silent 𝓛 2 (plain (λ _. X.row)) yes) (last : (x : X.row.Denot) → Last (X.row.exit yes) x) (k g : Callee)
      → Closed 𝓤 𝓛.H (tables 𝓤 𝓛.H 𝓜 𝓡 𝓡.env).C (tables 𝓤 𝓛.H 𝓜 𝓡 𝓡.env).Λ k (function g)
      → Meets 𝓛 Writing.signature ((tables 𝓤 𝓛.H 𝓜 𝓡 𝓡.env).C g) (closing 𝓛 Writing (writes 𝓛))
      → Meets 𝓛 Lending.signature ((tables 𝓤 𝓛.H 𝓜 𝓡 𝓡.env).C k) (closing 𝓛 Lending (lends 𝓛))
  writes_and_lends leaves 𝓤 𝓛 𝓜 𝓡 silent last k g closed met =
      let 𝓣 = tables 𝓤 𝓛.H 𝓜 𝓡 𝓡.env in
      proved 𝓛 Lending stayed (lends 𝓛) 𝓜 𝓡 (
        Goes-dropped 𝓛 2 (plain (λ _. Plan.row)) yes (λ κs x f. refl),
        (
          Goes-dropped 𝓛 2 Source yes (λ κs x f. refl),
          (Goes-spent_slice 𝓛 2 (1 ∷ []) tt (plain (λ _. u8)), (Goes-dropped 𝓛 2 (plain (λ _. X.row)) yes silent, tt)),
        ),
      )
      k (function g) closed
      (λ κs. (vals Plan, (shr_slice_vals, (mut_slice_vals, (vals X, tt)))))
      (λ κs. (Plan.told.tells, (shr_slice_Tells (named 0) κs.0 u8, (mut_slice_Tells (named 1) κs.1.0 u8, (X.told.tells, tt)))))
      (λ κs qs bounds a g₀ are.
      let κ₀ = κs.0 in let κ = κs.1.0 in let q₀ = qs.0 in let q = qs.1.0 in
      let plan = a.0 in let src = a.1.0 in let dst = a.1.1.0 in let x = a.1.1.1.0 in let s = src.now in let xs = dst.now in
      let b = dst.ref_ptr.0 in let o = dst.ref_ptr.1 in let γ = dst.ghost_name in
      let rs : Room u8 (length s) = are.1.0.0.1 in let rm : Room u8 (length xs) = are.1.1.0.0.1 in
      let W = walk_of 𝓛 Lending stayed (lends 𝓛) in
      let y : W.Ghost = ((κs, qs, bounds, a, (vals Plan plan, (shr_slice_vals src, (mut_slice_vals dst, (vals X x, tt))))), g₀) in
      let ends : (w : Val) (r : Result (MutBor (List ℕ)) Error) → Answered x s (length xs) r
      → Sq 𝓛 (‵ ((Lent Refusal (named 1) κ).row.own_val r (w ∷ [])) ∷ ‵ (LendsAnswer dst r) ∷ ‵ (flft κ q) ∷ ‵ (flft κ₀ q₀) ∷ []) (prop (W.post y w)) = λ w r answer.
      nothing ! $ move ! (3 ∷ 0 ∷ []) $ join ! $ move ! (3 ∷ 0 ∷ []) $ join ! $ move ! (1 ∷ 0 ∷ []) $
      suffices ! _ (ends_at 𝓛 Lending stayed (lends 𝓛) y w r (tt, (tt, (tt, (last x, tt)))) (tt, (tt, (tt, (tt, tt))))) $
      nothing ! $ nothing ! $ fjoin ! $ nothing ! $ fjoin ! $ nothing ! $ fjoin ! $ nothing ! $ fjoin ! $ join ! $ move ! (1 ∷ 0 ∷ []) $ join ! $ frame ! $
      says ! answer $ done ! in
      qed 𝓛 (((‵ (flft κ₀ q₀) ⊛ ‵ (flft κ q) ⊛ ‵ ftrue) ⊛ ‵ (owns (Plan.row ∷ ShrSlice (named 0) κ₀ u8 ∷ MutSlice (named 1) κ u8 ∷ X.row ∷ []) a y.0.4)) ∷ ‵ ftrue ∷ []) ∵
      split ! $ split3 ! $ move ! (3 ∷ []) $ fsplit3 ! $ move ! (2 ∷ []) $ fsplit3 ! $ keep ! (4 ∷ 0 ∷ 5 ∷ 6 ∷ 3 ∷ 1 ∷ []) $
      enter ! _ _ _ _ _ $ alloc_all ! (λ l. pass_all ! refl (
        typed Plan 𝓛 plan _ are.0,
        (
          (tt, (tt, (record { fits = rs.0 }, tt))),
          (
            (tt, (tt, (record { fits = rm.0 }, tt))),
            (typed X 𝓛 x _ are.1.1.1.0, tt),
          ),
        ),
      ) $
      -- [the source; the destination; the two tokens; the plan; the last argument; the locals]
      sets ! (addr ! (from ! (fld ! refl (hop ! (look_in_at ! 3 (sub ! 0 refl (whole !))) (stop !))))) refl (tt, tt) $
      sets ! (agg ! (and_then ! (get ! refl) (and_then ! (get_in ! (fld ! refl (stop !)) (sub ! 1 refl (whole !))) (no_more !)))) refl (tt, (tt, (record { fits = rm.0 }, tt))) $
      lft_new ! tt (λ α. move ! (2 ∷ []) $ fsplit ! $ fsplit ! $ drop ! $ fjoin ! $ move ! (0 ∷ 4 ∷ []) $
      use2 𝓛 (later (some (λ (δ : GName). ‵ ((BareSlice erased (α ∷ []) u8).own_val (record dst { ghost_name = δ })) ⊛ kept_f 𝓛 u8 κ q (α ∷ []) γ δ xs b o)))
      (sl_relend 𝓛 u8 κ q (α ∷ []) b o γ xs) $ await ! tt $
      pick ! (λ δ. split ! $ fsplit ! $ feq_i ! (List Val) (mut_slice_vals dst) (mut_slice_vals dst) refl $ fjoin ! $ fjoin ! $
      -- [the slice for the call; what is kept; the token for the call; the source; its token; the plan; the last argument; the locals]
      nothing ! $ move ! (7 ∷ 0 ∷ []) $ fjoin ! $ move ! (1 ∷ 0 ∷ []) $ fjoin ! $ move ! (3 ∷ 0 ∷ []) $ fjoin ! $ move ! (4 ∷ 0 ∷ []) $ fjoin ! $
      nothing ! $ move ! (3 ∷ 0 ∷ []) $ join ! $ move ! (3 ∷ 0 ∷ []) $ join ! $ join ! $ nothing ! $ move ! (1 ∷ 0 ∷ []) $
      calls ! 𝓜 𝓡 Writing (writes 𝓛) met (((κ₀, (α ∷ [], tt)), (q₀, (full_share, tt)), tt, (plan, (src, (record dst { ghost_name = δ }, (x, tt)))), y.0.4), tt) (id⊢ 𝓤 _)
      (and_then ! (get ! refl) (and_then ! (get ! refl) (and_then ! (get ! refl) (and_then ! (get ! refl) (no_more !))))) (λ v u ws. let new = ws.1.1.0 in
      move ! (1 ∷ []) $ use1 𝓛 (‵ (flft κ₀ q₀) ⊛ ‵ (flft (α ∷ []) full_share) ⊛ ‵ ftrue) (id⊢ 𝓤 _) $ split3 ! $ move ! (1 ∷ []) $ lft_end ! tt $
      -- [the call's token is over; the token of the source; nothing; the number; the arguments at the end; what is said; what was kept; the locals]
      move ! (2 ∷ 5 ∷ []) $ drop ! $ heard ! (Wrote x s xs new u) (λ wrote.
      move ! (3 ∷ []) $ fsplit ! $ drop ! $ fsplit ! $ drop ! $ fsplit ! $ fsplit ! $ fsplit ! $
      move ! (1 ∷ 2 ∷ 3 ∷ []) $ drop ! $ drop ! $ drop ! $ move ! (1 ∷ 4 ∷ 0 ∷ 3 ∷ []) $
      front_or_refusal Refusal _ _ _ _ 𝓛 _ _ _ _ _ _ _ _ ! 3 l κ₀ κ q₀ q α δ dst new (Answered x s (length xs)) u (leaves x s xs new u wrote) rm
      (λ n. addr ! (from ! (fld ! refl (hop ! (look_in_at ! 3 (sub ! 0 refl (whole !))) (stop !))))) ends))))))

  -- ---- without a plan: a source and a destination, and behind them the last argument or a constant in its place

  abbrev pub plain_function : ℕ → Body → Fn
  plain_function params body =
      function_of [] params
      (local (layout (Lent Refusal (named 1) []).row) value_local ∷ local (layout (ShrSlice (named 0) [] u8)) value_local
      ∷ local (layout (MutSlice (named 1) [] u8)) value_local ∷ local (layout X.row) value_local ∷ local (layout Plan.row) value_local
      ∷ address_local ∷ slice_local ∷ []) body

  abbrev pub plain_body : Callee → Body
  plain_body g = seq (call p_symbol.name [] (place 4 [])) (seq (assign (place 5 []) (address 2))
      (seq (assign (place 6 []) (aggregate (copy (place 5 []) ∷ copy (place 2 (field 1 ∷ [])) ∷ [])))
      (seq (call g (copy (place 4 []) ∷ copy (place 1 []) ∷ copy (place 6 []) ∷ copy (place 3 []) ∷ []) (place 0 [])) return)))

  abbrev pub Chosen : Ended
  Chosen = record { signature = record Lending.signature { params = Source ∷ Target ∷ plain (λ _. X.row) ∷ [] }; kept = (yes, (no, (yes, tt))) }

  abbrev pub Fixed : Ended
  Fixed = record { signature = record Lending.signature { params = Source ∷ Target ∷ [] }; kept = (yes, (no, tt)) }

  abbrev chosen_stay : Stays Chosen.signature.params Chosen.kept
  chosen_stay = (stay_dropped Source yes, (stay_dropped Target no, (stay_dropped (plain (λ _. X.row)) yes, tt)))

  abbrev fixed_stay : Stays Fixed.signature.params Fixed.kept
  fixed_stay = (stay_dropped Source yes, (stay_dropped Target no, tt))

  module _ {M : Type 1} (𝓤 : Ura M) (𝓛 : Logic 𝓤) (𝓜 : Model 𝓤 𝓛.H) (𝓡 : Running 𝓤 𝓛.H 𝓜) (g : Callee) (wired : Wired 𝓡.env p_symbol.code)
      (met : Meets 𝓛 Lending.signature ((tables 𝓤 𝓛.H 𝓜 𝓡 𝓡.env).C g) (closing 𝓛 Lending (lends 𝓛))) where
    -- the plan is made, and its call lends
    hands_on : (κ₀ κ : Lft) (q₀ q : Share) (src : Bor (List ℕ)) (dst : MutBor (List ℕ)) (x : X.row.Denot) (l : ℕ → ℕ) (Q : Val → SProp 𝓤)
        → Room u8 (length dst.now)
        → ((w : Val) (r : Result (MutBor (List ℕ)) Error) → Sq 𝓛 (‵ ((Lent Refusal (named 1) κ).row.own_val r (w ∷ []))
        ∷ raw (alive 𝓛 Fixed.signature (κ₀, (κ, tt)) (q₀, (q, tt))) ∷ raw (Promises 𝓛 x src dst r) ∷ []) (prop (Q w)))
        → let E = env (plain_function 0 return).locals l in
        Sq 𝓛 ((‵ (flft κ₀ q₀) ⊛ ‵ (flft κ q) ⊛ ‵ ftrue)
        ∷ ‵ (owns (ShrSlice (named 0) κ₀ u8 ∷ MutSlice (named 1) κ u8 ∷ X.row ∷ []) (src, (dst, (x, tt))) (shr_slice_vals src, (mut_slice_vals dst, (vals X x, tt))))
        ∷ holding 𝓛 E ((1, slice_val src.ref_ptr (length src.now)) ∷ (2, slice_val dst.ref_ptr (length dst.now)) ∷ (3, X.told.val x) ∷ []))
        (runs (tables 𝓤 𝓛.H 𝓜 𝓡 𝓡.env).C (tables 𝓤 𝓛.H 𝓜 𝓡 𝓡.env).Λ E (plain_body g) (at_ret E Q))
    hands_on κ₀ κ q₀ q src dst x l Q rm ends =
        nothing ! $ nothing ! $ join ! $ nothing ! $ move ! (1 ∷ 0 ∷ []) $
        calls ! 𝓜 𝓡 p.ended (p.clauses 𝓛 𝓜.mem 𝓡.returns) (p_met.met 𝓤 𝓛 𝓜 𝓡 wired) ((tt, tt, tt, tt, tt), tt) (id⊢ 𝓤 _) (no_more !) (λ v plan ws.
        peeks ! Plan.row _ (shows 𝓛 Plan.row) plan (v ∷ []) (λ is_plan. lands_as ! refl refl (typed Plan 𝓛 plan v is_plan) $
        move ! (1 ∷ 2 ∷ 3 ∷ []) $ drop ! $ drop ! $ drop ! $
        -- [the plan; the tokens; the arguments; the locals]
        sets ! (addr ! (from ! (fld ! refl (hop ! (look_in_at ! 2 (sub ! 0 refl (whole !))) (stop !))))) refl (tt, tt) $
        sets ! (agg ! (and_then ! (get ! refl) (and_then ! (get_in ! (fld ! refl (stop !)) (sub ! 1 refl (whole !))) (no_more !)))) refl
        (tt, (tt, (record { fits = rm.0 }, tt))) $ move ! (0 ∷ 2 ∷ []) $ fjoin ! $ move ! (1 ∷ 0 ∷ []) $ join ! $ nothing ! $ move ! (1 ∷ 0 ∷ []) $
        calls ! 𝓜 𝓡 Lending (lends 𝓛) met
        (((κ₀, (κ, tt)), (q₀, (q, tt)), tt, (plan, (src, (dst, (x, tt)))), ((v ∷ []), (shr_slice_vals src, (mut_slice_vals dst, (vals X x, tt))))), tt) (id⊢ 𝓤 _)
        (and_then ! (get ! refl) (and_then ! (get ! refl) (and_then ! (get ! refl) (and_then ! (get ! refl) (no_more !))))) (λ w r ws.
        let Front = Lent Refusal (named 1) κ in peeks ! Front.row _ (shows 𝓛 Front.row) r (w ∷ []) (λ is. lands_as ! refl refl (typed Front 𝓛 r w is) $
        -- [the result; the tokens; what is said of the arguments; the promises; the locals]
        returns ! (look_at ! 0 refl) $ free_all ! refl $ keep ! (0 ∷ 1 ∷ 3 ∷ []) $ ends w r))))

    -- what the two promise follows from what the plan's call promises
    pub with_argument : Silent 𝓛 2 (plain (λ _. X.row)) yes → ((x : X.row.Denot) → Last (X.row.exit yes) x) → (c : Clauses 𝓤 Chosen)
        → ((κs : Lfts 2) (a : Args Chosen.signature κs) (given : (c κs a).ghost) (r : Res Chosen.signature κs) (ws : Lasts Chosen κs a)
        → ent 𝓤 (Promises 𝓛 a.1.1.0 a.0 a.1.0 r) ((c κs a).ensures given r (at_exit Chosen κs a ws)))
        → (k : Callee) → Closed 𝓤 𝓛.H (tables 𝓤 𝓛.H 𝓜 𝓡 𝓡.env).C (tables 𝓤 𝓛.H 𝓜 𝓡 𝓡.env).Λ k (plain_function 3 (plain_body g))
        → Meets 𝓛 Chosen.signature ((tables 𝓤 𝓛.H 𝓜 𝓡 𝓡.env).C k) (closing 𝓛 Chosen c)
    with_argument silent last c follows k closed =
        proved 𝓛 Chosen chosen_stay c 𝓜 𝓡
        (Goes-dropped 𝓛 2 Source yes (λ κs x f. refl), (Goes-spent_slice 𝓛 2 (1 ∷ []) tt (plain (λ _. u8)), (Goes-dropped 𝓛 2 (plain (λ _. X.row)) yes silent, tt)))
        k (plain_function 3 (plain_body g)) closed
        (λ κs. (shr_slice_vals, (mut_slice_vals, (vals X, tt)))) (λ κs. (shr_slice_Tells (named 0) κs.0 u8, (mut_slice_Tells (named 1) κs.1.0 u8, (X.told.tells, tt))))
        (λ κs qs bounds a given are.
        let y : (walk_of 𝓛 Chosen chosen_stay c).Ghost = ((κs, qs, bounds, a, (shr_slice_vals a.0, (mut_slice_vals a.1.0, (vals X a.1.1.0, tt)))), given) in
        qed 𝓛 (((‵ (flft κs.0 qs.0) ⊛ ‵ (flft κs.1.0 qs.1.0) ⊛ ‵ ftrue) ⊛ ‵ (owns (ShrSlice (named 0) κs.0 u8 ∷ MutSlice (named 1) κs.1.0 u8 ∷ X.row ∷ []) a y.0.4))
        ∷ raw ((c κs a).requires given) ∷ []) ∵
        split ! $ keep ! (0 ∷ 1 ∷ []) $ enter ! _ _ _ _ _ $
        alloc_all ! (λ l. pass_all ! refl ((tt, (tt, (record { fits = are.0.0.1.0 }, tt))), ((tt, (tt, (record { fits = are.1.0.0.1.0 }, tt))), (typed X 𝓛 a.1.1.0 _ are.1.1.0, tt))) $
        hands_on κs.0 κs.1.0 qs.0 qs.1.0 a.0 a.1.0 a.1.1.0 l _ are.1.0.0.1 (λ w r.
        let ws : Lasts Chosen κs a = (tt, (tt, (last a.1.1.0, tt))) in
        move ! (2 ∷ []) $ use1 𝓛 (raw ((c κs a).ensures given r (at_exit Chosen κs a ws))) (follows κs a given r ws) $ move ! (1 ∷ 2 ∷ 0 ∷ []) $
        suffices ! _ (ends_at 𝓛 Chosen chosen_stay c y w r ws (tt, (tt, (tt, tt)))) $
        nothing ! $ nothing ! $ fjoin ! $ nothing ! $ fjoin ! $ nothing ! $ fjoin ! $ join ! $ move ! (1 ∷ 0 ∷ []) $ join ! $ done !)))

    pub with_constant : (x : X.row.Denot) (constant : Rv) → ((K : Type 0) (Γ : List (Item 𝓤)) (E : Env 𝓤 𝓛.H) (t : K) → Gives K 𝓛 Γ E constant (X.told.val x))
        → ent 𝓤 (emp 𝓤) (sem 𝓛 (X.row.own_val x (vals X x))) → (c : Clauses 𝓤 Fixed)
        → ((κs : Lfts 2) (a : Args Fixed.signature κs) (given : (c κs a).ghost) (r : Res Fixed.signature κs) (ws : Lasts Fixed κs a)
        → ent 𝓤 (Promises 𝓛 x a.0 a.1.0 r) ((c κs a).ensures given r (at_exit Fixed κs a ws)))
        → (k : Callee) → Closed 𝓤 𝓛.H (tables 𝓤 𝓛.H 𝓜 𝓡 𝓡.env).C (tables 𝓤 𝓛.H 𝓜 𝓡 𝓡.env).Λ k (plain_function 2 (seq (assign (place 3 []) constant) (plain_body g)))
        → Meets 𝓛 Fixed.signature ((tables 𝓤 𝓛.H 𝓜 𝓡 𝓡.env).C k) (closing 𝓛 Fixed c)
    with_constant x constant gives made c follows k closed =
        proved 𝓛 Fixed fixed_stay c 𝓜 𝓡
        (Goes-dropped 𝓛 2 Source yes (λ κs x f. refl), (Goes-spent_slice 𝓛 2 (1 ∷ []) tt (plain (λ _. u8)), tt))
        k (plain_function 2 (seq (assign (place 3 []) constant) (plain_body g))) closed
        (λ κs. (shr_slice_vals, (mut_slice_vals, tt))) (λ κs. (shr_slice_Tells (named 0) κs.0 u8, (mut_slice_Tells (named 1) κs.1.0 u8, tt)))
        (λ κs qs bounds a given are.
        let y : (walk_of 𝓛 Fixed fixed_stay c).Ghost = ((κs, qs, bounds, a, (shr_slice_vals a.0, (mut_slice_vals a.1.0, tt))), given) in
        qed 𝓛 (((‵ (flft κs.0 qs.0) ⊛ ‵ (flft κs.1.0 qs.1.0) ⊛ ‵ ftrue) ⊛ ‵ (owns (ShrSlice (named 0) κs.0 u8 ∷ MutSlice (named 1) κs.1.0 u8 ∷ []) a y.0.4))
        ∷ raw ((c κs a).requires given) ∷ []) ∵
        split ! $ keep ! (0 ∷ 1 ∷ []) $ move ! (1 ∷ []) $ fsplit3 ! $ move ! (2 ∷ []) $ use0 𝓛 (‵ (X.row.own_val x (vals X x))) made $
        peeks ! X.row _ (shows 𝓛 X.row) x (vals X x) (λ is. fjoin ! $ move ! (2 ∷ 0 ∷ []) $ fjoin ! $ move ! (1 ∷ 0 ∷ []) $ fjoin ! $ move ! (1 ∷ 0 ∷ []) $
        enter ! _ _ _ _ _ $ alloc_all ! (λ l. pass_all ! refl ((tt, (tt, (record { fits = are.0.0.1.0 }, tt))), ((tt, (tt, (record { fits = are.1.0.0.1.0 }, tt))), tt)) $
        sets ! (gives _ _ _ !) refl (typed X 𝓛 x (X.told.val x) is) $ hands_on κs.0 κs.1.0 qs.0 qs.1.0 a.0 a.1.0 x l _ are.1.0.0.1 (λ w r.
        move ! (2 ∷ []) $ use1 𝓛 (raw ((c κs a).ensures given r (at_exit Fixed κs a (tt, (tt, tt))))) (follows κs a given r (tt, (tt, tt))) $
        move ! (1 ∷ 2 ∷ 0 ∷ []) $
        suffices ! _ (ends_at 𝓛 Fixed fixed_stay c y w r (tt, (tt, tt)) (tt, (tt, tt))) $
        nothing ! $ nothing ! $ fjoin ! $ nothing ! $ fjoin ! $ join ! $ move ! (1 ∷ 0 ∷ []) $ join ! $ done !))))
