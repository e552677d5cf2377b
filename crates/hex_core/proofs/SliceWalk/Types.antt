-- The types that the slice calls pass, with their laws.
use Rattle.hex_core.proofs.SliceWalk.Kit.{refl, ap, subst, List, [], ◌∷◌, Ura, Body, Callee, Lifetime, Operand, Place}
use Rattle.hex_core.proofs.SliceWalk.Kit.{seq, call, Val, WT, has_ty, ent, sep, id⊢, Lft, Model, Env, Logic, Item, Post}
use Rattle.hex_core.proofs.SliceWalk.Kit.{lands, runs, mean, ‵, ◌⊛◌, raw, some, later, Seq, ◌$◌, move, split, use1}
use Rattle.hex_core.proofs.SliceWalk.Kit.{use2, await, pick, Opds, Running, tables, u8, usize, bool, Is, layout}
use Rattle.hex_core.proofs.SliceWalk.Kit.{RattleType, NamedLft, type_at, MutSlice, only, calls_at, Clauses, Ended}
use Rattle.hex_core.proofs.SliceWalk.Kit.{Lasts, at_exit, closing, lasts, Res, alive, Meets, triple_of, framed}
use lib.Dec.{T}
use denote.Param.Laws.{Laws, Told, of_field, field_told, param_laws}
use denote.Param.Shared.{copy_shared, mut_slice_shared}
use denote.Struct.Field.{u8-field, u64-field, bool-field, mut_slice_field}
use denote.Struct.Laws.{u8-copy, u64-laws, u64-copy, bool-laws, bool-copy, mut_slice_laws}
use Rattle.std.specs.contracts.result.Result as RS
use Rattle.std.proofs.result.Result.TheLaws as RL
use Rattle.hex_core.specs.contracts.backend.Backend as BA
use Rattle.hex_core.proofs.backend.Backend.TheLaws as BL
use Rattle.hex_core.specs.contracts.digit.CheckCase as CC
use Rattle.hex_core.proofs.digit.CheckCase.TheLaws as CL
use Rattle.hex_core.specs.contracts.error.Error as ER
use Rattle.hex_core.proofs.error.Error.TheLaws as EL

-- a type whose values tell their one machine value, with its laws
pub record Known : Type 2 where
  pub row : RattleType
  pub laws : Laws row
  pub told : Told row

abbrev pub vals : (R : Known) → R.row.Denot → List Val
vals R x = R.told.val x ∷ []

-- a machine value is of its type
pub typed : (R : Known) {M : Type 1} {𝓤 : Ura M} (𝓛 : Logic 𝓤) (x : R.row.Denot) (v : Val) → Is R.row x (v ∷ []) → T (has_ty (layout R.row) v) × WT v
typed R 𝓛 x v is = (((param_laws 0 R.row R.laws).lawful 𝓛).typed x (v ∷ []) is).0

-- and it is the one that is told
pub told_typed : (R : Known) {M : Type 1} {𝓤 : Ura M} (𝓛 : Logic 𝓤) (x : R.row.Denot) (v : Val) → Is R.row x (v ∷ []) → T (has_ty (layout R.row) (R.told.val x)) × WT (R.told.val x)
told_typed R 𝓛 x v is = subst (λ (w : Val). T (has_ty (layout R.row) w) × WT w) (ap only (R.told.tells x (v ∷ []) is)) (typed R 𝓛 x v is)

abbrev pub Plan : Known
Plan = record { row = BA.the_row; laws = BL.the_row_laws; told = BL.the_told }

abbrev pub Policy : Known
Policy = record { row = CC.the_row; laws = CL.the_row_laws; told = CL.the_told }

abbrev pub Refusal : Known
Refusal = record { row = ER.the_row; laws = EL.the_row_laws; told = EL.the_told }

-- a choice of letters
abbrev pub Letters : Known
Letters = record { row = bool; laws = of_field bool-field bool-laws refl (copy_shared bool-field bool-copy); told = field_told bool-field bool-laws }

abbrev Number : Known
Number = record { row = usize; laws = of_field u64-field u64-laws refl (copy_shared u64-field u64-copy); told = field_told u64-field u64-laws }

abbrev Bytes : NamedLft → Known
Bytes slot = record {
  row = MutSlice slot.mir slot.lft u8;
  laws = of_field (mut_slice_field slot u8 tt) (mut_slice_laws slot u8 tt) refl (mut_slice_shared slot u8 tt (copy_shared u8-field u8-copy));
  told = field_told (mut_slice_field slot u8 tt) (mut_slice_laws slot u8 tt);
}

abbrev pub ResultOf : Known → Known → Known
ResultOf X E = record { row = RS.the_row X.row E.row; laws = RL.the_row_laws X.row E.row X.laws E.laws; told = RL.the_told X.row E.row X.laws E.laws X.told E.told }

-- how many bytes were written, or the refusal
abbrev pub Counted : Known → Known
Counted = ResultOf Number

-- the lent front, or the refusal
abbrev pub Lent : Known → Lifetime → Lft → Known
Lent E ℓ κ = ResultOf (Bytes (record { mir = ℓ; lft = κ })) E

-- a call, from the tokens with what the arguments own, and what the callee asks. It gives back the result, the tokens, what is said of
-- the arguments at its end, and what it promises
module _ {M : Type 1} {𝓤 : Ura M} {𝓛 : Logic 𝓤} {K : Type 0} {Γ : List (Item 𝓤)} {i j : Item 𝓤} {E : Env 𝓤 𝓛.H} {f : Callee} {xs : List Operand} {d : Place} {rest : Body} {q : Post 𝓤 𝓛.H} where
  pub calls : K → (𝓜 : Model 𝓤 𝓛.H) (𝓡 : Running 𝓤 𝓛.H 𝓜) (T : Ended) (c : Clauses 𝓤 T) → let 𝓣 = tables 𝓤 𝓛.H 𝓜 𝓡 𝓡.env in let G = triple_of 𝓛 T.signature (closing 𝓛 T c) in
      Meets 𝓛 T.signature (𝓣.C f) (closing 𝓛 T c) → (z : G.Ghost) → ent 𝓤 (sep 𝓤 (mean 𝓛 i) (mean 𝓛 j)) (G.pre z) → Opds K 𝓛 (raw (G.pre z) ∷ Γ) E xs (G.args z)
      → ((w : Val) (r : Res T.signature z.0.0) (ws : Lasts T z.0.0 z.0.3) → Seq K 𝓛 (‵ ((type_at T.signature.result z.0.0).own_val r (w ∷ [])) ∷ raw (alive 𝓛 T.signature z.0.0 z.0.1) ∷ ‵ (lasts T z.0.0 z.0.3 ws)
      ∷ raw ((c z.0.0 z.0.3).ensures z.1 r (at_exit T z.0.0 z.0.3 ws)) ∷ Γ) (lands 𝓣.C 𝓣.Λ E d w rest q))
      → Seq K 𝓛 (i ∷ j ∷ Γ) (runs 𝓣.C 𝓣.Λ E (seq (call f xs d) rest) q)
  calls t 𝓜 𝓡 T c met z asked opds k =
      let G = triple_of 𝓛 T.signature (closing 𝓛 T c) in
      use2 𝓛 (raw (G.pre z)) asked $ calls_at t (framed 𝓤 𝓛.H 𝓜 (tables 𝓤 𝓛.H 𝓜 𝓡 𝓡.env)) G met z opds (λ w.
      use1 𝓛 (later (some (λ (r : Res T.signature z.0.0). (raw (alive 𝓛 T.signature z.0.0 z.0.1) ⊛ ‵ ((type_at T.signature.result z.0.0).own_val r (w ∷ [])))
      ⊛ some (λ (ws : Lasts T z.0.0 z.0.3). ‵ (lasts T z.0.0 z.0.3 ws) ⊛ raw ((c z.0.0 z.0.3).ensures z.1 r (at_exit T z.0.0 z.0.3 ws)))))) (id⊢ 𝓤 _) $
      await t tt $ pick t (λ r. split t $ split t $ move t (2 ∷ []) $ pick t (λ ws. split t $ move t (3 ∷ 2 ∷ []) $ k w r ws)))
