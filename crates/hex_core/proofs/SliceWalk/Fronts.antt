-- The front of a slice of bytes is lent: the slice is lent as an array, and the array's first bytes as a slice.
use Rattle.hex_core.proofs.SliceWalk.Kit.{◌≡◌, refl, ap, sym, ℕ, arith, List, [], ◌∷◌, length, MutBor, Ok, Ura}
use Rattle.hex_core.proofs.SliceWalk.Kit.{Lifetime, Val, ent, sep, Lft}
use Rattle.hex_core.proofs.SliceWalk.Kit.{GName, Share, flft, Logic, sem, Item, mean, ‵, ◌⊛◌, ◌$◌, ◌∵◌, given, later}
use Rattle.hex_core.proofs.SliceWalk.Kit.{some, !, drop, move, qed, split3}
use Rattle.hex_core.proofs.SliceWalk.Kit.{fsplit, fjoin, feq_i, use1, use2, await, pick, learn, done, BareSlice, u8}
use Rattle.hex_core.proofs.SliceWalk.Kit.{RattleType, MutSlice, Room}
use Rattle.hex_core.proofs.SliceWalk.Kit.{slice_val, ok_val}
use Rattle.std.proofs.slice.Relends.{array_lent, lends_array}
use Rattle.std.proofs.Common.{◌++◌, length-append}
use Rattle.std.proofs.ResultValues.{ok_of}
use Rattle.std.specs.contracts.result.Result as RS
use base.Fml.{Fml}
use base.Logic.{ex}
use borrow.Rule.Array.SliceTied.{mut_arr_front}
use denote.Array.{Array}
use denote.Follow.{follows, follows_then}
use types.Kit.{now, show, updating}

-- over a type of errors, a slice with these bytes at its front and behind, and its token's share
module _ (E : RattleType) (slice : MutBor (List ℕ)) (front rest : List ℕ) (q : Share) (κ : Lft) (ℓ : Lifetime) {M : Type 1} {𝓤 : Ura M} (𝓛 : Logic 𝓤) where
  open 𝓛 use {H, A}

  -- the slice under other names, and with the front alone
  abbrev Whole : GName → MutBor (List ℕ)
  Whole α = record slice { ghost_name = α }

  abbrev Front : GName → MutBor (List ℕ)
  Front δ = record slice { ghost_name = δ; now = front }

  -- what has one name ends as what has the other, with the rest behind
  abbrev Ends : GName → GName → Fml
  Ends α δ = follows (Array u8 0) (Array u8 0) α δ (λ ws. ws ++ rest)

  -- a slice as its machine value with a count
  abbrev Counted : MutBor (List ℕ) → ℕ → Fml
  Counted x n = (MutSlice ℓ κ u8).own_val x (slice_val x.ref_ptr n ∷ [])

  abbrev Bare : MutBor (List ℕ) → Fml
  Bare = (BareSlice ℓ κ u8).own_val

  counted : (x : MutBor (List ℕ)) (n : ℕ) → length x.now ≡ n → ent 𝓤 (sem 𝓛 (Bare x)) (sem 𝓛 (Counted x n))
  counted x n is = qed 𝓛 (‵ (Bare x) ∷ []) ∵ fsplit ! $
      feq_i ! (List Val) (slice_val x.ref_ptr n ∷ []) (slice_val x.ref_ptr (length x.now) ∷ []) (ap (λ (k : ℕ). slice_val x.ref_ptr k ∷ []) (sym is)) $
      fjoin ! $ fjoin ! $ done !

  -- the front of n bytes in a result, and what the slice ends as
  abbrev Answer : ℕ → GName → Fml
  Answer n δ = (RS.the_row (MutSlice ℓ κ u8) E).own_val (Ok (Front δ)) (ok_val (slice_val slice.ref_ptr n) ∷ [])

  abbrev pub front_lent : ℕ → GName → Item 𝓤
  front_lent n δ = ‵ (Answer n δ) ⊛ ‵ (flft κ q) ⊛ ‵ (Ends slice.ghost_name δ)

  pub lends_front : (n : ℕ) → length front ≡ n → slice.now ≡ front ++ rest → Room u8 (length front)
      → ent 𝓤 (sep 𝓤 (sem 𝓛 (Bare slice)) (A.lft κ q)) (H.⇛ (ex 𝓤 (λ δ. mean 𝓛 (front_lent n δ))))
  lends_front n count is room =
      let size = length slice.now in let γ = slice.ghost_name in
      let arrayed : GName → Item 𝓤 = array_lent 𝓛 ℓ κ q slice.ref_ptr.0 slice.ref_ptr.1 γ u8 tt size slice.now refl in
      let fronted : GName → GName → Item 𝓤 = λ α δ. ‵ (Bare (Front δ)) ⊛ ‵ (flft κ q) ⊛ ‵ (Ends α δ) in
      let fits : (ws : List ℕ) → length ws ≡ length front → (ws ++ rest ≡ ws ++ rest) × (length (ws ++ rest) ≡ size) = λ ws same.
      (refl, omega (arith, same, length-append ws rest, length-append front rest, ap length is)) in
      qed 𝓛 (‵ (Bare slice) ∷ ‵ (flft κ q) ∷ []) ∵ updating ! $ use1 𝓛 (‵ (Counted slice size)) (counted slice size refl) $
      use2 𝓛 (later (some arrayed)) (lends_array 𝓛 ℓ κ q slice.ref_ptr.0 slice.ref_ptr.1 γ u8 tt size slice.now refl (slice_val slice.ref_ptr size ∷ [])) $
      await ! tt $ pick ! (λ α. split3 ! $ fsplit ! $ drop ! $
      use2 𝓛 (later (given (size ≡ size) (some (fronted α)))) (mut_arr_front 𝓛 u8 size κ q (Whole α) front rest (λ ws. ws ++ rest) tt (λ _. (is, room, fits))) $
      await ! tt $ learn ! (λ _. pick ! (λ δ. split3 ! $
      -- [the front; the token; what the array ends as; what the slice ends as]
      use1 𝓛 (‵ (Counted (Front δ) n)) (counted (Front δ) n count) $ use1 𝓛 (‵ (Answer n δ)) (ok_of 𝓛 (MutSlice ℓ κ u8) E (Front δ) (slice_val slice.ref_ptr n)) $
      move ! (3 ∷ 2 ∷ []) $ use2 𝓛 (‵ (Ends γ δ)) (follows_then 𝓛 (Array u8 0) (Array u8 0) (Array u8 0) (λ ws. ws) (λ ws. ws ++ rest) γ α δ) $
      move ! (1 ∷ 2 ∷ 0 ∷ []) $ now ! $ show ! (λ δ'. mean 𝓛 (front_lent n δ')) δ $ done !)))
