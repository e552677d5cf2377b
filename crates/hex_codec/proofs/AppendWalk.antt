-- The walk of `hex_append` and of `hex_append_upper`: both pass on what `append_in` answers, with the lender in the other place.
use Rattle.hex_core.proofs.SliceWalk.Kit.{refl, Bool, List, [], ◌∷◌, length, Ura, Callee, Fn, Operand, Ty}
use Rattle.hex_core.proofs.SliceWalk.Kit.{named, erased, mut, ty_ref, place, deref, local, value_local, copy}
use Rattle.hex_core.proofs.SliceWalk.Kit.{addr_of, seq, assign, call, return, vbool, sep, emp, id⊢, Lft, ftrue}
use Rattle.hex_core.proofs.SliceWalk.Kit.{flft, Model, Closed, Logic, sem, Item, Env, ‵, ◌⊛◌, raw, ◌$◌, ◌∵◌, ! }
use Rattle.hex_core.proofs.SliceWalk.Kit.{qed, move, keep, split, join, fjoin, use1, suffices, done, stop, addr}
use Rattle.hex_core.proofs.SliceWalk.Kit.{and_then, no_more, returns, enter, alloc_all, pass_all, free_all}
use Rattle.hex_core.proofs.SliceWalk.Kit.{look_at, get, through, sets, lands_as, ◌⊑◌, fact, Running, tables, u8}
use Rattle.hex_core.proofs.SliceWalk.Kit.{bool, yes, no, Is, shows, lone, layout, param, bool_vals, bool_Makes}
use Rattle.hex_core.proofs.SliceWalk.Kit.{RattleType, MutRef, NamedLft, mut_vals, mut_Tells, plain, mut_ref_to}
use Rattle.hex_core.proofs.SliceWalk.Kit.{shr_slice_of, ShrSlice, Room, shr_slice_vals, shr_slice_Tells}
use Rattle.hex_core.proofs.SliceWalk.Kit.{nothing, owned, peeks, Clauses, closing, Meets, Goes-dropped}
use Rattle.hex_core.proofs.SliceWalk.Kit.{Goes-spent_ref, Stays, ends_at, stay_dropped, proved}
use borrow.Table.Str.{str_laws}
use denote.Param.Laws.{field_told}
use denote.Text.{str-field, str-laws}
use mir.Syntax.{Dict}
use types.Run.{Opd}
use Rattle.std.specs.Io.BufRead.{Rests}
use Rattle.std.specs.contracts.string.String as S
use Rattle.hex_core.proofs.SliceWalk.{function_of}
use Rattle.hex_core.proofs.SliceWalk.Types.{Known, Refusal, ResultOf, calls, typed}
use Rattle.std.specs.declared.alloc.Allocator.{Ghosts}
use Rattle.hex_codec.specs.Append.{AnswersSuffix, AppendsDigits}
use Rattle.hex_codec.specs.contracts.strings.append_in as h
use Rattle.hex_codec.specs.contracts.strings.hex_append as f

abbrev Text : NamedLft → Known
Text slot = record { row = (str-field slot).row; laws = str_laws slot; told = field_told (str-field slot) (str-laws slot) }

-- the answer, whose text is borrowed for the second lifetime
abbrev Answer : Lft → Known
Answer κ = ResultOf (Text (record { mir = named 1; lft = κ })) Refusal

-- the two bodies, at a string's type as a reference names it and as it lies, and a constant for the choice of letters
abbrev pub function : Ty → Ty → Callee → Operand → Fn
function σ ρ appends choice =
    function_of ((2, 1) ∷ []) 2
    (local (layout (Answer []).row) value_local ∷ local (lone (ShrSlice (named 0) [] u8).mir) value_local ∷ local (ty_ref (named 1) mut σ) value_local
    ∷ local (ty_ref erased mut σ) value_local ∷ [])
    (seq (assign (place 3 []) (addr_of (place 2 (deref ρ ∷ [])))) (seq (call appends (copy (place 3 []) ∷ copy (place 1 []) ∷ choice ∷ []) (place 0 [])) return))

module _ {M : Type 1} (𝓤 : Ura M) (𝓛 : Logic 𝓤) (𝓜 : Model 𝓤 𝓛.H) (𝓡 : Running 𝓤 𝓛.H 𝓜)
    (A : RattleType) (g : Ghosts A.Denot) (d dd : Dict) where
  abbrev Owner : RattleType
  Owner = S.the_row (param 0 A) g

  abbrev stayed : Stays (f.ended A g d dd).signature.params (f.ended A g d dd).kept
  stayed = (stay_dropped (shr_slice_of (0 ∷ []) tt (plain (λ _. u8))) yes, (stay_dropped (mut_ref_to (1 ∷ []) tt (plain (λ _. Owner))) no, tt))

  -- what both promise
  abbrev pub clauses : Bool → Clauses 𝓤 (f.ended A g d dd)
  clauses upper κs a = record {
    ghost = Unit {0};
    requires = λ _. sep 𝓤 (fact 𝓤 (κs.1.1.0 ⊑ A.lives)) (emp 𝓤);
    ensures = λ _ r _. sep 𝓤 (sem 𝓛 (Rests Owner a.1.0 (λ new. AppendsDigits upper a.0.now r a.1.0.now new)))
        (fact 𝓤 (AnswersSuffix (λ suffix. suffix.now) upper a.0.now a.1.0.now r));
  }

  pub passes_on : (upper : Bool) (choice : Operand) → ((K : Type 0) (Γ : List (Item 𝓤)) (E : Env 𝓤 𝓛.H) (t : K) → Opd K 𝓛 Γ E choice (vbool upper))
      → (σ ρ : Ty) (appends k : Callee)
      → Closed 𝓤 𝓛.H (tables 𝓤 𝓛.H 𝓜 𝓡 𝓡.env).C (tables 𝓤 𝓛.H 𝓜 𝓡 𝓡.env).Λ k (function σ ρ appends choice)
      → Meets 𝓛 (h.signature A g d dd) ((tables 𝓤 𝓛.H 𝓜 𝓡 𝓡.env).C appends) (h.spec A g d dd 𝓛 𝓜.mem 𝓡.returns)
      → Meets 𝓛 (f.ended A g d dd).signature ((tables 𝓤 𝓛.H 𝓜 𝓡 𝓡.env).C k) (closing 𝓛 (f.ended A g d dd) (clauses upper))
  passes_on upper choice gives σ ρ appends k closed met =
      proved 𝓛 (f.ended A g d dd) stayed (clauses upper) 𝓜 𝓡
      (Goes-dropped 𝓛 3 (shr_slice_of (0 ∷ []) tt (plain (λ _. u8))) yes (λ κs x w. refl), (Goes-spent_ref 𝓛 3 (1 ∷ []) tt (plain (λ _. Owner)), tt))
      k (function σ ρ appends choice) closed
      (λ κs. (shr_slice_vals, (mut_vals, tt))) (λ κs. (shr_slice_Tells (named 0) κs.0 u8, (mut_Tells (named 1) κs.1.0 Owner, tt)))
      (λ κs qs bounds a g₀ are.
      let κ₀ = κs.0 in let κ₁ = κs.1.0 in let κ₂ = κs.1.1.0 in
      let q₀ = qs.0 in let q₁ = qs.1.0 in let q₂ = qs.1.1.0 in
      let src = a.0 in let dst = a.1.0 in
      let rm : Room u8 (length src.now) = are.0.0.1 in
      qed 𝓛 (((‵ (flft κ₀ q₀) ⊛ ‵ (flft κ₁ q₁) ⊛ ‵ (flft κ₂ q₂) ⊛ ‵ ftrue)
      ⊛ (‵ ((ShrSlice (named 0) κ₀ u8).own_val src (shr_slice_vals src)) ⊛ ‵ ((MutRef (named 1) κ₁ Owner).own_val dst (mut_vals dst)) ⊛ ‵ ftrue))
      ∷ (raw (fact 𝓤 (κ₂ ⊑ A.lives)) ⊛ ‵ ftrue) ∷ []) ∵
      -- the callee's tokens and arguments: the string first
      split ! $ split ! $ move ! (1 ∷ []) $ split ! $ move ! (2 ∷ 1 ∷ []) $ join ! $ move ! (1 ∷ 0 ∷ []) $ join ! $
      move ! (1 ∷ []) $ split ! $ move ! (1 ∷ []) $ split ! $ move ! (1 ∷ []) $
      owned ! bool (Is bool) (bool_Makes 𝓛) upper (vbool upper ∷ []) refl $ join ! $
      move ! (2 ∷ 0 ∷ []) $ join ! $ move ! (1 ∷ 0 ∷ []) $ join ! $ move ! (1 ∷ 0 ∷ []) $ join ! $
      enter ! _ _ _ _ _ $ alloc_all ! (λ l. pass_all ! refl ((tt, (tt, (record { fits = rm.0 }, tt))), ((tt, tt), tt)) $
      sets ! (addr ! (through ! refl (stop !))) refl (tt, tt) $
      calls ! 𝓜 𝓡 (h.ended A g d dd) (h.clauses A g d dd 𝓛 𝓜.mem 𝓡.returns) met
      (((κ₁, (κ₀, (κ₂, tt))), (q₁, (q₀, (q₂, tt))), bounds, (dst, (src, (upper, tt))), (mut_vals dst, (shr_slice_vals src, (bool_vals upper, tt)))), tt) (id⊢ 𝓤 _)
      (and_then ! (get ! refl) (and_then ! (get ! refl) (and_then ! (gives _ _ _ !) (no_more !)))) (λ w r ws.
      peeks ! (Answer κ₁).row _ (shows 𝓛 (Answer κ₁).row) r (w ∷ []) (λ is-r. lands_as ! refl refl (typed (Answer κ₁) 𝓛 r w is-r) $
      -- [the result; the tokens; what is said of the arguments; the promises; the locals]
      returns ! (look_at ! 0 refl) $ free_all ! refl $ move ! (1 ∷ []) $ use1 𝓛 (‵ (flft κ₁ q₁) ⊛ ‵ (flft κ₀ q₀) ⊛ ‵ (flft κ₂ q₂) ⊛ ‵ ftrue) (id⊢ 𝓤 _) $
      split ! $ move ! (1 ∷ []) $ split ! $ move ! (2 ∷ 1 ∷ []) $ join ! $ move ! (1 ∷ 0 ∷ []) $ join ! $ keep ! (1 ∷ 0 ∷ 3 ∷ []) $
      suffices ! _ (ends_at 𝓛 (f.ended A g d dd) stayed (clauses upper) ((κs, qs, bounds, a, (shr_slice_vals src, (mut_vals dst, tt))), g₀) w r (tt, (tt, tt)) (tt, (tt, tt))) $
      nothing ! $ nothing ! $ fjoin ! $ nothing ! $ fjoin ! $ join ! $ move ! (1 ∷ 0 ∷ []) $ join ! $ done !))))
