-- The pieces of a list, and the grouped text of them.
use Rattle.std.proofs.Common.{◌≡◌, ◌⊎◌, inl, inr, ℕ, zero, suc, ◌+◌, ◌-◌, ◌*◌, ◌/◌, ◌%◌, ◌<◌, ◌≤◌, Bool, refl, sym, ap, ◌∙◌, arith}
use Rattle.std.proofs.Common.{List, [], ◌∷◌, ◌++◌, length, take, drop, map, append-nil, append_assoc, length-append, length-drop}
use Rattle.std.proofs.Math.Nat.{add-div_left, add-mod_left, zero-div, zero-mod, div-eq_of_lt, mod-eq_of_lt}
use Rattle.std.proofs.Math.Seq.{drop-append_seam, take-append_seam}
use Rattle.std.proofs.lemmas.Bool.{cases_lt}
use Rattle.std.proofs.lemmas.List.{drop-drop, drop_all, length-take-le, take_all}
use Rattle.std.proofs.lemmas.Grind.{common_steps}
use Rattle.std.specs.List.{join_by, range_with_len}
use Rattle.hex_core.specs.Text.{text}
use Rattle.hex_core.proofs.TextLemmas.{length-text}
use Rattle.hex_codec.specs.declared.group.Group.{Group}
use Rattle.hex_codec.specs.GroupedWriting.{grouped, piece_count, piece_len, pieces, separator}
use Rattle.hex_codec.specs.GroupedReading.{grouped_len}

-- ---- pieces

pub no_pieces : (every : ℕ) → pieces every [] ≡ []
no_pieces every = rw (zero-div every, zero-mod every) refl

-- one piece fewer is left behind the first
pub count-next : (every n : ℕ) → 0 < every → 0 < n → piece_count every n ≡ suc (piece_count every (n - every))
count-next every n pos some = elim (cases_lt n every) [
  | inl h ↦
      let none : n - every ≡ 0 = omega arith in
      rw (none, zero-div every, zero-mod every, div-eq_of_lt h, mod-eq_of_lt h) (omega arith)
  | inr h ↦
      let m = n - every in
      let sum : n ≡ every + m = omega arith in
      omega (arith, ap (λ x. x / every) sum, ap (λ x. x % every) sum, add-div_left m {k = every} pos, add-mod_left every m)
]

-- a map over numbers, moved by one
map-next : (f h : ℕ → List ℕ) → ((i : ℕ) → f (i + 1) ≡ h i) → (a n : ℕ) → map f (range_with_len (a + 1) n) ≡ map h (range_with_len a n)
map-next f h same a zero = refl
map-next f h same a (suc n) = rw (same a) (ap (λ l. h a ∷ l) (map-next f h same (a + 1) n))

-- the first piece, and those behind it
pub pieces-next : (every : ℕ) (bytes : List ℕ) → 0 < every → 0 < length bytes → pieces every bytes ≡ take every bytes ∷ pieces every (drop every bytes)
pieces-next every bytes pos some =
    let back = drop every bytes in
    let count : piece_count every (length bytes) ≡ suc (piece_count every (length back)) = rw (length-drop every bytes)
    (count-next every (length bytes) pos some) in
    let first : 0 * every ≡ 0 = omega arith in
    rw (count, first) (ap (λ l. take every bytes ∷ l) (map-next (λ i. take every (drop (i * every) bytes)) (λ i. take every (drop (i * every) back))
    (λ i. let at : (i + 1) * every ≡ every + i * every = grind arith in rw (at, drop-drop (i * every) every bytes) refl) 0 _))

pub one_piece : (every : ℕ) (bytes : List ℕ) → 0 < every → 0 < length bytes → length bytes ≤ every → pieces every bytes ≡ bytes ∷ []
one_piece every bytes pos some fits =
    pieces-next every bytes pos some ∙ rw (take_all every bytes fits, drop_all every bytes fits, no_pieces every) refl

-- what holds of each list of at most a piece, and of a longer one if it holds behind the first piece, holds of all
pub by_pieces : (every : ℕ) → 0 < every → (P : List ℕ → Type 0) → ((bytes : List ℕ) → length bytes ≤ every → P bytes)
    → ((bytes : List ℕ) → every < length bytes → P (drop every bytes) → P bytes) → (bytes : List ℕ) → P bytes
by_pieces every pos P last more bytes = walk (length bytes) bytes (omega arith) (cases_lt every (length bytes))
  where
    walk : (fuel : ℕ) (bytes : List ℕ) → length bytes ≤ fuel → (every < length bytes) ⊎ (length bytes ≤ every) → P bytes
    walk fuel bytes fits (inr short) = last bytes short
    walk zero bytes fits (inl long) = absurd (omega arith)
    walk (suc fuel) bytes fits (inl long) =
        more bytes long (walk fuel (drop every bytes) (omega (arith, length-drop every bytes, pos)) (cases_lt every (length (drop every bytes))))

-- ---- lengths

-- at most one piece has no separator
pub len-last : (every n : ℕ) → 0 < every → n ≤ every → grouped_len every n ≡ 2 * n
len-last every zero pos fits = rw (zero-div every, zero-mod every) refl
len-last every (suc n) pos fits =
    let none : suc n - every ≡ 0 = omega (arith, fits) in
    let rest : piece_count every (suc n - every) ≡ 0 = rw (none, zero-div every, zero-mod every) refl in
    omega (arith, count-next every (suc n) pos (omega arith), rest)

-- a piece, its separator, and those behind it
pub len-more : (every n : ℕ) → 0 < every → every < n → grouped_len every n ≡ 2 * every + 1 + grouped_len every (n - every)
len-more every n pos more = omega (arith, count-next every n pos (omega arith), count-next every (n - every) pos (omega arith), more)

-- ---- texts

module _ (group : Group) (upper : Bool) where
  abbrev every : ℕ
  every = piece_len group

  abbrev shown : List (List ℕ) → List ℕ
  shown parts = join_by (text upper) (separator group ∷ []) parts

  pub grouped-last : (bytes : List ℕ) → length bytes ≤ every → grouped group upper bytes ≡ text upper bytes
  grouped-last [] fits = ap shown (no_pieces every)
  grouped-last (b ∷ bytes) fits = ap shown (one_piece every (b ∷ bytes) group.is_group.0 (omega arith) fits) ∙ append-nil (text upper (b ∷ bytes))

  pub grouped-more : (bytes : List ℕ) → every < length bytes
      → grouped group upper bytes ≡ text upper (take every bytes) ++ (separator group ∷ grouped group upper (drop every bytes))
  grouped-more bytes long =
      let pos = group.is_group.0 in
      let next = pieces-next every bytes pos (omega (arith, long)) in
      let behind = pieces-next every (drop every bytes) pos (omega (arith, long, length-drop every bytes)) in
      ap shown (next ∙ ap (λ l. take every bytes ∷ l) behind) ∙ ap (λ l. text upper (take every bytes) ++ (separator group ∷ shown l)) (sym behind)

  pub length-grouped : (bytes : List ℕ) → length (grouped group upper bytes) ≡ grouped_len every (length bytes)
  length-grouped = by_pieces every group.is_group.0 (λ bytes. length (grouped group upper bytes) ≡ grouped_len every (length bytes))
      (λ bytes short. ap length (grouped-last bytes short) ∙ length-text upper bytes ∙ sym (len-last every (length bytes) group.is_group.0 short))
      (λ bytes long rest.
      let back = drop every bytes in
      let sum = ap length (grouped-more bytes long) ∙ length-append (text upper (take every bytes)) (separator group ∷ grouped group upper back) in
      omega (arith, sum, length-text upper (take every bytes), length-take-le every bytes (omega (arith, long)), rest ∙ ap (grouped_len every) (length-drop every bytes), len-more every (length bytes) group.is_group.0 long))

  -- whole pieces, and those behind them
  pub joined-pieces : (front back : List ℕ) → length front % every ≡ 0 → 0 < length front → 0 < length back
      → grouped group upper (front ++ back) ≡ grouped group upper front ++ (separator group ∷ grouped group upper back)
  joined-pieces front back =
      let pos = group.is_group.0 in
      by_pieces every pos (λ front. length front % every ≡ 0 → 0 < length front → 0 < length back
      → grouped group upper (front ++ back) ≡ grouped group upper front ++ (separator group ∷ grouped group upper back))
      (λ front short whole some more.
      let size : every ≡ length front = elim (cases_lt (length front) every) [
        | inl h ↦ absurd (omega (arith, mod-eq_of_lt h))
        | inr h ↦ omega arith
      ] in
      let first : take every (front ++ back) ≡ front = rw size (take-append_seam front back) in
      let behind : drop every (front ++ back) ≡ back = rw size (drop-append_seam front back) in
      rw (grouped-more (front ++ back) (omega (arith, length-append front back, size, more)), first, behind, grouped-last front short) refl)
      (λ front long joined whole some more.
      let next = drop every front in
      let left = length-drop every front in
      let sum : length front ≡ every + length next = omega (arith, left, long) in
      let first : take every (front ++ back) ≡ take every front = grind (arith, common_steps, long) in
      let behind : drop every (front ++ back) ≡ next ++ back = grind (arith, common_steps, long) in
      let rest = joined (sym (add-mod_left every (length next)) ∙ (rw sum at whole)) (omega (arith, left, long)) more in
      rw (grouped-more (front ++ back) (omega (arith, length-append front back, long)), first, behind, rest, grouped-more front long)
      (sym (append_assoc (text upper (take every front)) (separator group ∷ grouped group upper next) (separator group ∷ grouped group upper back))))
      front
