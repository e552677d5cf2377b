-- A source without its white space.
use Rattle.std.proofs.Common.{◌≡◌, ℕ, suc, ◌+◌, ◌≤◌, Bool, true, false, List, [], ◌∷◌, ◌++◌, length, take, drop, None}
use Rattle.std.proofs.Common.{Some, get_or, refl, ◌∙◌, ap, arith, not, ◌<◌, ◌*◌, ◌/◌, ◌≢◌, slice_index, length-append, length-drop, take-append-drop, append-nil, zero}
use Rattle.std.specs.Prelude.{◌↔◌, ◌&&◌, IsSome, filter, position}
use Rattle.std.proofs.Math.Nat.{mul-le-mul_right}
use Rattle.std.proofs.Math.Seq.{take-add}
use Rattle.std.proofs.lemmas.Bool.Decides.{nat_tests}
use Rattle.std.proofs.lemmas.Grind.{common_steps}
use Rattle.std.proofs.lemmas.List.{drop_more, get_or-drop, get_or-take, length-take-le}
use Rattle.std.proofs.lemmas.List.Elements.{filter-append, filter_more}
use Rattle.std.proofs.lemmas.List.Quantifiers.{position-Some}
use Rattle.std.proofs.lemmas.List.Filters.{length-filter_both}
use borrow.Rule.Slice.PartMut.{put_mid}
use Rattle.hex_core.specs.declared.digit.CheckCase.{CheckCase}
use Rattle.hex_core.specs.declared.digit.CheckCase.TheVariants as policy
use Rattle.hex_core.specs.Digit.{value}
use Rattle.hex_core.specs.Search.{first_invalid}
use Rattle.hex_core.specs.Text.{Spells}
use Rattle.hex_core.proofs.JoinLemmas.{spells-joined, valid-both}
use Rattle.hex_core.proofs.PositionLemmas.{before_none, none_joined, position_none}
use Rattle.hex_core.proofs.SearchLemmas.{has_value, lacks}
use Rattle.hex_codec.specs.inside.{AreLines}
use Rattle.hex_codec.specs.Spaced.{first_invalid_spaced, is_solid, is_invalid_spaced, unspaced}

pub unspaced-le : (s : List ℕ) → length (unspaced s) ≤ length s
unspaced-le s = omega (arith, length-filter_both is_solid (λ b. not (is_solid b)) (λ _. refl) s)

-- no byte passes both tests exactly where no byte that `q` keeps passes `p`
none-kept : (p q : ℕ → Bool) (s : List ℕ) → (position (λ b. q b && p b) s ≡ None) ↔ (position p (filter q s) ≡ None)
none-kept p q [] = (λ _. refl, λ _. refl)
none-kept p q (b ∷ s) = by_first (q b) (p b) refl refl (none-kept p q s)
  where
    by_first : (t u : Bool) → q b ≡ t → p b ≡ u → (position (λ b. q b && p b) s ≡ None) ↔ (position p (filter q s) ≡ None) → (position (λ b. q b && p b) (b ∷ s) ≡ None) ↔ (position p (filter q (b ∷ s)) ≡ None)
    by_first true u kept is rest = let both = none_joined (λ b. q b && p b) (b ∷ []) s in let behind = none_joined p (b ∷ []) (filter q s) in rw (kept, is) (grind (arith, nat_tests, rest, both, behind))
    by_first false u left is rest = let both = none_joined (λ b. q b && p b) (b ∷ []) s in rw left (grind (arith, nat_tests, rest, both))

-- no byte is invalid exactly where all bytes but white space are digits
pub none-invalid-spaced : (c : CheckCase) (s : List ℕ) → (first_invalid_spaced c s ≡ None) ↔ (first_invalid c (unspaced s) ≡ None)
none-invalid-spaced c s = none-kept (lacks c) is_solid s

-- digits are no white space
digit-solid : (c : CheckCase) (b : ℕ) → lacks c b ≡ false → is_solid b ≡ true
digit-solid policy.None b is = grind (arith, nat_tests, is)
digit-solid policy.Lower b is = grind (arith, nat_tests, is)
digit-solid policy.Upper b is = grind (arith, nat_tests, is)

pub digits-solid : (c : CheckCase) (s : List ℕ) → first_invalid c s ≡ None → unspaced s ≡ s
digits-solid c [] none = refl
digits-solid c (b ∷ s) none =
    let rest = digits-solid c s ((none_joined (lacks c) (b ∷ []) s).0 none).1 in
    rw (digit-solid c b (has_value c (b ∷ s) 0 none (omega arith)), rest) refl

-- more bytes of a source
pub unspaced-more : (at n : ℕ) (s : List ℕ) → unspaced (take (at + n) s) ≡ unspaced (take at s) ++ unspaced (take n (drop at s))
unspaced-more at n s = ap unspaced (take-add at n s) ∙ filter-append is_solid (take at s) (take n (drop at s))

pub invalid-more : (c : CheckCase) (at n : ℕ) (s : List ℕ)
    → (first_invalid_spaced c (take (at + n) s) ≡ None) ↔ ((first_invalid_spaced c (take at s) ≡ None) × (first_invalid_spaced c (take n (drop at s)) ≡ None))
invalid-more c at n s = rw (take-add at n s) (none_joined (is_invalid_spaced c) (take at s) (take n (drop at s)))

-- ---- the next byte that is no white space

none-solid : (s : List ℕ) → position is_solid s ≡ None → unspaced s ≡ []
none-solid [] none = refl
none-solid (b ∷ s) none =
    let here = before_none is_solid (b ∷ s) none 0 (omega arith) in
    let rest = none-solid s ((none_joined is_solid (b ∷ []) s).0 none).1 in
    rw here rest

pub solid-there : (s : List ℕ) → 0 < length (unspaced s) → position is_solid s ≢ None
solid-there s some = λ none. omega (arith, some, ap length (none-solid s none))

pub solid-first : (s : List ℕ) (i : ℕ) → position is_solid s ≡ Some i → (i < length s) × (unspaced (take (i + 1) s) ≡ slice_index s i ∷ [])
solid-first s i first =
    let told = position-Some is_solid s i 0 first in
    let size = length-take-le i s (omega (arith, told.0)) in
    let before = position_none is_solid (take i s) (λ k lt. let inside : k < i = omega (arith, size, lt) in rw (get_or-take i s k 0 inside) (told.2 k inside)) in
    (told.0, filter_more is_solid s i 0 told.0 ∙ rw (none-solid (take i s) before, told.1) refl)

-- ---- lines

-- digits and the white space behind them
pub line-more : (c : CheckCase) (s : List ℕ) (at len gap : ℕ) → first_invalid c (take len (drop at s)) ≡ None
    → unspaced (take gap (drop (at + len) s)) ≡ [] → unspaced (take (at + (len + gap)) s) ≡ unspaced (take at s) ++ take len (drop at s)
line-more c s at len gap valid space =
    let all : at + len + gap ≡ at + (len + gap) = omega arith in
    rw all at (unspaced-more (at + len) gap s)
    ∙ rw (space, append-nil (unspaced (take (at + len) s)), unspaced-more at len s, digits-solid c (take len (drop at s)) valid) refl

pub line-clean : (c : CheckCase) (s : List ℕ) (at len next : ℕ) → first_invalid_spaced c (take at s) ≡ None → first_invalid c (take len (drop at s)) ≡ None
    → unspaced (take next s) ≡ unspaced (take at s) ++ take len (drop at s) → first_invalid_spaced c (take next s) ≡ None
line-clean c s at len next clean valid line =
    (none-invalid-spaced c (take next s)).1 (rw line (valid-both c (unspaced (take at s)) (take len (drop at s)) ((none-invalid-spaced c (take at s)).0 clean) valid))

pub lines-digits : (c : CheckCase) (s : List ℕ) (len gap n : ℕ) → AreLines c s len gap n → (k : ℕ) → k ≤ n
    → (length (unspaced (take (k * (len + gap)) s)) ≡ k * len) × (first_invalid_spaced c (take (k * (len + gap)) s) ≡ None)
lines-digits c s len gap n lines zero le = let none : 0 * (len + gap) ≡ 0 = omega arith in rw none (omega arith, refl)
lines-digits c s len gap n lines (suc k) le =
    let at = k * (len + gap) in let before = lines-digits c s len gap n lines k (omega arith) in
    let next : suc k * (len + gap) ≡ at + (len + gap) = omega arith in
    let inside : at + (len + gap) ≤ length s = omega (arith, lines.inside, mul-le-mul_right (len + gap) le, next) in
    let line = line-more c s at len gap (lines.digits k (omega arith)) (lines.space k (omega arith)) in
    let size = length-take-le len (drop at s) (omega (arith, inside, length-drop at s)) in
    rw next (
      omega (arith, ap length line, length-append (unspaced (take at s)) (take len (drop at s)), size, before.0),
      line-clean c s at len (at + (len + gap)) before.1 (lines.digits k (omega arith)) line,
    )

-- a source has at least the digits of its start
pub unspaced-start : (k : ℕ) (s : List ℕ) → length (unspaced s) ≡ length (unspaced (take k s)) + length (unspaced (drop k s))
unspaced-start k s = ap length (rw (take-append-drop k s) at (filter-append is_solid (take k s) (drop k s))) ∙ length-append (unspaced (take k s)) (unspaced (drop k s))

-- where there is room for the bytes of all digits, there is for those of the lines
pub lines-room : (c : CheckCase) (s : List ℕ) (len gap n room : ℕ) → AreLines c s len gap n → length (unspaced s) ≤ 2 * room → n * (len / 2) ≤ room
lines-room c s len gap n room lines fits =
    let told = (lines-digits c s len gap n lines n (omega arith)).0 in
    let twice : len ≡ 2 * (len / 2) = omega (arith, lines.even) in
    let all : n * len ≡ 2 * (n * (len / 2)) = ap (λ m. n * m) twice ∙ omega arith in
    omega (arith, told, all, unspaced-start (n * (len + gap)) s, fits)

-- ---- decoding

-- a byte that is no white space is a digit, where no byte is invalid
pub digit-at : (c : CheckCase) (s : List ℕ) (k : ℕ) → first_invalid_spaced c s ≡ None → k < length s → is_solid (get_or s k 0) ≡ true → IsSome (value c (get_or s k 0))
digit-at c s k none inside solid = let here = before_none (is_invalid_spaced c) s none k inside in grind (arith, nat_tests, here, solid)

module _ (s : List ℕ) (at : ℕ) (inside : at < length s) (solid : is_solid (get_or s at 0) ≡ true) where
  -- such a byte, and those behind it
  pub solid-next : length (unspaced s) ≡ length (unspaced (take at s)) + (1 + length (unspaced (drop (at + 1) s)))
  solid-next =
      let parts = rw (take-append-drop at s) at (filter-append is_solid (take at s) (drop at s)) in
      let next : unspaced (drop at s) ≡ get_or s at 0 ∷ unspaced (drop (at + 1) s) = rw (drop_more s at 0 inside, solid) refl in
      omega (arith, ap length parts, length-append (unspaced (take at s)) (unspaced (drop at s)), ap length next)

  -- the first of them is the second digit of the pair
  pub pair-next : (i : ℕ) → position is_solid (drop (at + 1) s) ≡ Some i → unspaced (take (i + 2) (drop at s)) ≡ get_or s at 0 ∷ get_or s (at + 1 + i) 0 ∷ []
  pair-next i first =
      let low = (solid-first (drop (at + 1) s) i first).1 in
      let place : i + 2 ≡ suc (i + 1) = omega arith in
      rw (drop_more s at 0 inside, place, solid, low, get_or-drop (at + 1) s i 0) refl

pub length-put : (a k : ℕ) (xs ys : List ℕ) → a + k ≤ length xs → length ys ≡ k → length (put_mid a k xs ys) ≡ length xs
length-put a k xs ys inside size = grind (arith, common_steps, inside, size)

-- where a digit stands behind whole pairs and the digits are even in number, there is another behind it, and room for their byte
pub more-digits : (c : CheckCase) (s dst : List ℕ) (at done : ℕ) → at < length s → is_solid (get_or s at 0) ≡ true → length (unspaced s) ≡ 2 * length dst
    → done ≤ length dst → Spells c (unspaced (take at s)) (take done dst) → (0 < length (unspaced (drop (at + 1) s))) × (done < length dst)
more-digits c s dst at done inside solid twice room before =
    let all = solid-next s at inside solid in let size = length-take-le done dst room in
    (omega (arith, all, size, twice, before.twice), omega (arith, all, size, twice, before.twice))

-- the next digits are decoded behind those before them
pub decoded-more : (c : CheckCase) (s old new digits part : List ℕ) (at next done n : ℕ) → Spells c (unspaced (take at s)) (take done old)
    → unspaced (take next s) ≡ unspaced (take at s) ++ digits → Spells c digits part → take n new ≡ take done old ++ part → Spells c (unspaced (take next s)) (take n new)
decoded-more c s old new digits part at next done n before more spelled is = rw (more, is) (spells-joined c _ _ _ _ before spelled)
