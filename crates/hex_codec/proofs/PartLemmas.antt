-- The parts of a text, and by them what it spells and its first wrong byte.
use Rattle.std.proofs.Common.{◌≡◌, ℕ, suc, ◌+◌, ◌-◌, ◌*◌, ◌/◌, ◌<◌, ◌≤◌, List, [], ◌∷◌, ◌++◌, length, take}
use Rattle.std.proofs.Common.{drop, refl, sym, ap, ◌∙◌, arith, All, append-nil, get_or, length-append}
use Rattle.std.proofs.Common.{length-drop, inl, inr, ◌%◌, false, not, ◌==◌, Option, Some, None}
use Rattle.std.proofs.Common.{length-take, option_map}
use Rattle.std.proofs.lemmas.List.{drop-take, drop_all, drop_more, length-take-le, take_all, take-take}
use Rattle.std.proofs.lemmas.List.{get_or-drop, get_or-take}
use Rattle.std.proofs.lemmas.List.Elements.{All-cons, All-nil}
use Rattle.std.specs.List.{flat_map, range_with_len}
use Rattle.std.specs.Prelude.{position}
use Rattle.std.proofs.Math.Nat.{add-mod_left, mod-eq_of_lt}
use Rattle.std.proofs.lemmas.Bool.{cases_lt, eq-eqb, ne_eqb}
use Rattle.std.proofs.lemmas.Bool.Decides.{nat_tests}
use Rattle.std.proofs.lemmas.List.Quantifiers.{position-Some}
use Rattle.hex_core.specs.declared.digit.CheckCase.{CheckCase}
use Rattle.hex_core.specs.Text.{Spells}
use Rattle.hex_core.proofs.JoinLemmas.{spells-joined, spells-parts}
use Rattle.hex_core.specs.Search.{first_invalid}
use Rattle.hex_core.proofs.LawProofs.{valid-spelled}
use Rattle.hex_core.proofs.PositionLemmas.{before_none, least_behind, least_is, least_none, least_told}
use Rattle.hex_core.proofs.PositionLemmas.{none_told, position_none}
use Rattle.hex_core.proofs.SearchLemmas.{lacks}
use Rattle.hex_codec.specs.declared.group.Group.{Group}
use Rattle.hex_codec.specs.GroupedWriting.{piece_len, separator}
use Rattle.hex_codec.specs.GroupedReading.{GroupSpells, digits_in, grouped_len, separators_in}
use Rattle.hex_codec.specs.GroupedReading.{first_invalid_in_text, is_invalid_in_text}
use Rattle.hex_codec.proofs.GroupLemmas.{len-last, len-more, no_pieces, one_piece, pieces-next, by_pieces}

-- the first part of a text, and those behind it
parted : (every : ℕ) (s : List ℕ) → 0 < length s
    → (digits_in every s ≡ take (2 * every) s ++ digits_in every (drop (2 * every + 1) s))
    × (separators_in every s ≡ drop (2 * every) (take (2 * every + 1) s) ++ separators_in every (drop (2 * every + 1) s))
parted every s some =
    let line = 2 * every + 1 in
    let next = pieces-next line s (omega arith) some in
    let digits = take-take (2 * every) line s (omega arith) in
    (ap (flat_map (take (2 * every))) next ∙ ap (λ l. l ++ digits_in every (drop line s)) digits, ap (flat_map (drop (2 * every))) next)

-- a text without a separator is its digits
unparted : (every : ℕ) (s : List ℕ) → length s ≤ 2 * every → (digits_in every s ≡ s) × (separators_in every s ≡ [])
unparted every [] fits = let none = no_pieces (2 * every + 1) in (rw none refl, rw none refl)
unparted every (b ∷ s) fits =
    let all = b ∷ s in
    let one = one_piece (2 * every + 1) all (omega arith) (omega arith) (omega (arith, fits)) in
    (rw (one, append-nil (take (2 * every) all)) (take_all (2 * every) all fits), rw (one, append-nil (drop (2 * every) all)) (drop_all (2 * every) all fits))

one_separator : (n : ℕ) (s : List ℕ) → n < length s → drop n (take (n + 1) s) ≡ get_or s n 0 ∷ []
one_separator n s long = rw (drop-take n 1 s, drop_more s n 0 long) refl

module _ (c : CheckCase) (group : Group) where
  abbrev every : ℕ
  every = piece_len group

  -- a text of at most a piece spells what its digits spell
  pub spells-last : (s bytes : List ℕ) → length bytes ≤ every → Spells c s bytes → GroupSpells c group s bytes
  spells-last s bytes fits h =
      let is = unparted every s (omega (arith, h.twice, fits)) in
      record { long = h.twice ∙ sym (len-last every (length bytes) group.is_group.0 fits); separated = rw is.1 (All-nil _); spelled = rw is.0 h }

  pub last-spelled : (s bytes : List ℕ) → length bytes ≤ every → GroupSpells c group s bytes → Spells c s bytes
  last-spelled s bytes fits h =
      rw (unparted every s (omega (arith, h.long, len-last every (length bytes) group.is_group.0 fits, fits))).0 at h.spelled

  -- a longer one spells what its first part spells, and what is behind its separator
  pub spells-more : (s x y : List ℕ) → length x ≡ every → 0 < length y → Spells c (take (2 * every) s) x → get_or s (2 * every) 0 ≡ separator group
      → GroupSpells c group (drop (2 * every + 1) s) y → GroupSpells c group s (x ++ y)
  spells-more s x y size some first mark rest =
      let sum = length-append x y in
      let cut : length (x ++ y) - every ≡ length y = omega (arith, sum, size) in
      let len = len-more every (length (x ++ y)) group.is_group.0 (omega (arith, sum, size, some)) ∙ ap (λ n. 2 * every + 1 + grouped_len every n) cut in
      let left = length-drop (2 * every + 1) s in
      let long : 2 * every + 1 < length s = omega (arith, left, rest.long, some) in
      let part = parted every s (omega (arith, long)) in
      record {
        long = omega (arith, left, rest.long, len, long);
        separated = rw (part.1, one_separator (2 * every) s (omega (arith, long))) (All-cons (λ b. b ≡ separator group) _ _ mark rest.separated);
        spelled = rw part.0 (spells-joined c (take (2 * every) s) _ x y first rest.spelled);
      }

  pub record First (s bytes : List ℕ) : Type 0 where
    pub long : 2 * every < length s
    pub digits : Spells c (take (2 * every) s) (take every bytes)
    pub mark : get_or s (2 * every) 0 ≡ separator group
    pub rest : GroupSpells c group (drop (2 * every + 1) s) (drop every bytes)

  pub first-part : (s bytes : List ℕ) → every < length bytes → GroupSpells c group s bytes → First s bytes
  first-part s bytes more h =
      let len = len-more every (length bytes) group.is_group.0 more in
      let long : 2 * every < length s = omega (arith, h.long, len) in
      let part = parted every s (omega (arith, long)) in
      let size = length-take-le (2 * every) s (omega (arith, long)) in
      let half : length (take (2 * every) s) / 2 ≡ every = omega (arith, size) in
      let both = spells-parts c (take (2 * every) s) (digits_in every (drop (2 * every + 1) s)) bytes (omega (arith, size)) (rw part.0 at h.spelled) in
      let marks : All (λ b. b ≡ separator group) (get_or s (2 * every) 0 ∷ separators_in every (drop (2 * every + 1) s)) =
      rw (part.1, one_separator (2 * every) s long) at h.separated in
      record {
        long = long;
        digits = rw half at both.0;
        mark = marks 0 0 (omega arith);
        rest = record {
          long = rw (length-drop (2 * every + 1) s, length-drop every bytes) (omega (arith, h.long, len));
          separated = λ k d lt. marks (suc k) d (omega arith);
          spelled = rw half at both.1;
        };
      }

  abbrev n : ℕ
  n = 2 * every

  -- ---- one place

  at-digit : (s : List ℕ) (k : ℕ) → k < n → is_invalid_in_text c group s k ≡ lacks c (get_or s k 0)
  at-digit s k lt = rw (ne_eqb (k % (n + 1)) n (λ e. absurd (omega (arith, e, mod-eq_of_lt {n = k} {m = n + 1} (omega arith), lt)))) refl

  at-separator : (s : List ℕ) → is_invalid_in_text c group s n ≡ not (get_or s n 0 == separator group)
  at-separator s = rw (eq-eqb (n % (n + 1)) n (mod-eq_of_lt {n = n} {m = n + 1} (omega arith))) refl

  -- behind a part a byte is wrong where it is in the rest
  behind : (s : List ℕ) (k : ℕ) → is_invalid_in_text c group (drop (n + 1) s) k ≡ is_invalid_in_text c group s (n + 1 + k)
  behind s k = rw (add-mod_left (n + 1) k, get_or-drop (n + 1) s k 0) refl

  digit-clear : (s : List ℕ) (k : ℕ) → first_invalid c (take n s) ≡ None → k < n → k < length s → is_invalid_in_text c group s k ≡ false
  digit-clear s k valid low lt =
      at-digit s k low ∙ (rw (get_or-take n s k 0 low) at (before_none (lacks c) (take n s) valid k (omega (arith, length-take n s))))

  digits-valid : (s : List ℕ) → ((k : ℕ) → k < length s → is_invalid_in_text c group s k ≡ false) → first_invalid c (take n s) ≡ None
  digits-valid s clear = position_none (lacks c) (take n s) (λ k lt.
      let size = length-take n s in
      let low : k < n = omega (arith, lt, size) in
      rw (get_or-take n s k 0 low) (sym (at-digit s k low) ∙ clear k (omega (arith, lt, size))))

  -- ---- the first wrong byte

  -- it is inside the text
  pub invalid-inside : (s : List ℕ) (i : ℕ) → first_invalid_in_text c group s ≡ Some i → i < length s
  invalid-inside s i e = (least_told (is_invalid_in_text c group s) (length s) i e).inside

  -- an invalid digit of the first part
  pub digit-invalid : (s : List ℕ) (i : ℕ) → first_invalid c (take n s) ≡ Some i → first_invalid_in_text c group s ≡ Some i
  digit-invalid s i first =
      let told = position-Some (lacks c) (take n s) i 0 first in
      let size = length-take n s in
      let digit : (k : ℕ) → k ≤ i → is_invalid_in_text c group s k ≡ lacks c (get_or (take n s) k 0) = λ k h.
      at-digit s k (omega (arith, told.0, size)) ∙ ap (lacks c) (sym (get_or-take n s k 0 (omega (arith, told.0, size)))) in
      least_is (is_invalid_in_text c group s) (length s) i (omega (arith, told.0, size)) (λ k lt. digit k (omega arith) ∙ told.2 k lt)
      (digit i (omega arith) ∙ told.1)

  -- its separator, where that is another byte
  pub separator-wrong : (s : List ℕ) → n < length s → first_invalid c (take n s) ≡ None → (get_or s n 0 ≡ separator group → ⊥)
      → first_invalid_in_text c group s ≡ Some n
  separator-wrong s long valid differs =
      least_is (is_invalid_in_text c group s) (length s) n long (λ k lt. digit-clear s k valid lt (omega arith))
      (at-separator s ∙ ap not (ne_eqb (get_or s n 0) (separator group) differs))

  -- else that of the text behind it
  pub part-clear : (s : List ℕ) → n < length s → first_invalid c (take n s) ≡ None → get_or s n 0 ≡ separator group
      → first_invalid_in_text c group s ≡ option_map (λ i. n + 1 + i) (first_invalid_in_text c group (drop (n + 1) s))
  part-clear s long valid mark =
      let rest = drop (n + 1) s in
      let all : length s ≡ n + 1 + length rest = omega (arith, length-drop (n + 1) s) in
      ap (λ m. position (is_invalid_in_text c group s) (range_with_len 0 m)) all
      ∙ least_behind (is_invalid_in_text c group s) (is_invalid_in_text c group rest) (n + 1) (length rest)
      (λ k lt. elim (cases_lt k n) [
        | inl low ↦ digit-clear s k valid low (omega arith)
        | inr past ↦
            let is : k ≡ n = omega arith in
            rw is (at-separator s ∙ ap not (eq-eqb (get_or s n 0) (separator group) mark))
      ]) (behind s)

  -- in a text without a separator it is the first invalid digit
  pub last-invalid : (s : List ℕ) (o : Option ℕ) → length s ≤ n → first_invalid c s ≡ o → first_invalid_in_text c group s ≡ o
  last-invalid s (Some i) fits first = digit-invalid s i (rw (take_all n s fits) first)
  last-invalid s None fits valid =
      least_none (is_invalid_in_text c group s) (length s) (λ k lt. digit-clear s k (rw (take_all n s fits) valid) (omega (arith, fits, lt)) lt)

  -- ---- texts without one

  pub record Clear (s : List ℕ) : Type 0 where
    pub valid : first_invalid c (take n s) ≡ None
    pub mark : get_or s n 0 ≡ separator group
    pub rest : first_invalid_in_text c group (drop (n + 1) s) ≡ None

  pub clear-part : (s : List ℕ) → n < length s → first_invalid_in_text c group s ≡ None → Clear s
  clear-part s long none =
      let clear = none_told (is_invalid_in_text c group s) (length s) none in
      record {
        valid = digits-valid s clear;
        mark = grind (arith, nat_tests, sym (at-separator s) ∙ clear n long);
        rest = least_none (is_invalid_in_text c group (drop (n + 1) s)) (length (drop (n + 1) s))
            (λ k lt. behind s k ∙ clear (n + 1 + k) (omega (arith, lt, length-drop (n + 1) s)));
      }

  pub clear-last : (s : List ℕ) → length s ≤ n → first_invalid_in_text c group s ≡ None → first_invalid c s ≡ None
  clear-last s fits none = rw (take_all n s fits) at (digits-valid s (none_told (is_invalid_in_text c group s) (length s) none))

  -- one that spells a list has none
  pub spells-clear : (bytes s : List ℕ) → GroupSpells c group s bytes → first_invalid_in_text c group s ≡ None
  spells-clear = by_pieces every group.is_group.0 (λ bytes. (s : List ℕ) → GroupSpells c group s bytes → first_invalid_in_text c group s ≡ None)
      (λ bytes short s h.
      let digits = last-spelled s bytes short h in
      last-invalid s None (omega (arith, digits.twice, short)) (valid-spelled c s bytes digits))
      (λ bytes long rest s h.
      let first = first-part s bytes long h in
      part-clear s first.long (valid-spelled c (take n s) (take every bytes) first.digits) first.mark ∙ rw (rest (drop (n + 1) s) first.rest) refl)
