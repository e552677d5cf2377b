-- Grouped texts: they are read back, what is read spells a list, and what they are made of.
use Rattle.std.proofs.Common.{◌≡◌, ◌⊎◌, not, ◌==◌, if◌then◌else◌, true, false, Option, None, inl, inr, ℕ, zero}
use Rattle.std.proofs.Common.{suc, ◌+◌, ◌*◌, ◌%◌, ◌<◌, ◌≤◌, Bool, refl, sym, ap, ◌∙◌, arith, List, ◌∷◌, ◌++◌}
use Rattle.std.proofs.Common.{length, take, drop, All, Some, length-drop, take-append-drop, ◌-◌, ◌/◌, get_or}
use Rattle.std.proofs.Common.{slice_index, option_map, length-append}
use Rattle.std.specs.Prelude.{IsSome, is_none}
use Rattle.std.proofs.lemmas.Bool.{cases_lt}
use Rattle.std.proofs.lemmas.List.{drop_more, drop-drop, get_or-drop, length-take-le}
use Rattle.std.proofs.lemmas.List.Elements.{All-from_get_or}
use Rattle.std.proofs.Math.Seq.{drop-append_seam, take-append_seam}
use Rattle.std.proofs.lemmas.Bool.Decides.{nat_tests}
use Rattle.hex_core.specs.Digit.{strict, value}
use Rattle.hex_core.specs.declared.digit.CheckCase.TheVariants as policy
use Rattle.hex_core.specs.Laws.{AreBytes}
use Rattle.hex_core.specs.Text.{text, Spells}
use Rattle.hex_core.proofs.LawProofs.{decoding-inverts, encoding-inverts, valid-spelled, spelled as accepted}
use Rattle.hex_core.proofs.PositionLemmas.{none_told}
use Rattle.hex_core.proofs.SearchLemmas.{none_valid}
use Rattle.hex_core.specs.declared.digit.CheckCase.{CheckCase}
use Rattle.hex_core.proofs.JoinLemmas.{spells-parts}
use Rattle.hex_core.proofs.TextLemmas.{length-text, text-append}
use Rattle.hex_codec.specs.declared.group.Group.{Group}
use Rattle.hex_codec.specs.GroupedWriting.{grouped, piece_len, separator}
use Rattle.hex_codec.specs.GroupLaws.{GroupSpellsOneList, GroupingInvertsStrictReading, ReadingInvertsGrouping}
use Rattle.hex_codec.specs.GroupLaws.{ReadsWhatGroupSpells, TextsAreDigits}
use Rattle.hex_codec.specs.GroupedReading.{GroupSpells, digits_in, is_invalid_in_text, byte_count}
use Rattle.hex_codec.specs.GroupedReading.{first_invalid_in_text, group_refusal, grouped_len, refusal_of_count}
use Rattle.hex_codec.proofs.GroupLemmas.{by_pieces, grouped-last, grouped-more}
use Rattle.hex_codec.proofs.GroupLemmas.{len-last, len-more}
use Rattle.hex_codec.proofs.PartLemmas.{first-part, last-spelled, spells-last, spells-more}
use Rattle.hex_codec.proofs.PartLemmas.{spells-clear, clear-last, clear-part}
use Rattle.hex_codec.proofs.SpelledLemmas.{one_list}
use Rattle.hex_codec.specs.declared.grouped.GroupFault.{GroupFault}
use Rattle.hex_codec.specs.declared.grouped.GroupFault.TheVariants.{InvalidByte}
use Rattle.hex_codec.proofs.CountLemmas.{count-is, count-told}

module _ (c : CheckCase) (group : Group) where
  abbrev every : ℕ
  every = piece_len group

  -- ---- written, and read back

  pub read-back : (upper : Bool) (bytes : List ℕ) → Spells c (text upper bytes) bytes → GroupSpells c group (grouped group upper bytes) bytes
  read-back upper = by_pieces every group.is_group.0 (λ bytes. Spells c (text upper bytes) bytes → GroupSpells c group (grouped group upper bytes) bytes)
      (λ bytes short h. rw (grouped-last group upper bytes short) (spells-last c group (text upper bytes) bytes short h))
      (λ bytes long back h.
      let front = take every bytes in
      let rest = drop every bytes in
      let first = text upper front in
      let behind = separator group ∷ grouped group upper rest in
      let all = first ++ behind in
      let whole : front ++ rest ≡ bytes = take-append-drop every bytes in
      let size = length-take-le every bytes (omega (arith, long)) in
      let twice : length first ≡ 2 * every = omega (arith, length-text upper front, size) in
      let half : length first / 2 ≡ every = omega (arith, twice) in
      let cut : text upper bytes ≡ first ++ text upper rest = ap (text upper) (sym whole) ∙ text-append upper front rest in
      let both = spells-parts c first (text upper rest) bytes (omega (arith, twice)) (rw cut at h) in
      let line : drop (2 * every) all ≡ behind = rw (← twice) (drop-append_seam first behind) in
      let place : 2 * every + 0 ≡ 2 * every = omega arith in
      let mark : get_or all (2 * every) 0 ≡ separator group = (rw place at (sym (get_or-drop (2 * every) all 0 0))) ∙ ap (λ l. get_or l 0 0) line in
      let digits : take (2 * every) all ≡ first = rw (← twice) (take-append_seam first behind) in
      let next : drop (2 * every + 1) all ≡ grouped group upper rest = sym (drop-drop 1 (2 * every) all) ∙ ap (drop 1) line in
      let ours : Spells c first front = rw half at both.0 in
      let theirs : Spells c (text upper rest) rest = rw half at both.1 in
      let joined = spells-more c group all front rest size (omega (arith, length-drop every bytes, long)) (rw digits ours) mark (rw next (back theirs)) in
      rw (grouped-more group upper bytes long) (rw whole at joined))

  -- ---- read, and spelled

  has-count : (count : Option ℕ) (f : Option GroupFault) (room : ℕ) → refusal_of_count count f room ≡ None → (n : ℕ) × (count ≡ Some n)
  has-count None f room h = cc
  has-count (Some n) f room h = (n, refl)

  spelled : (fuel n : ℕ) (s : List ℕ) → n ≤ fuel → length s ≡ grouped_len every n → first_invalid_in_text c group s ≡ None
      → (every < n) ⊎ (n ≤ every) → (bytes : List ℕ) × (length bytes ≡ n) × GroupSpells c group s bytes
  spelled fuel n s fits long none (inr short) =
      let size : length s ≡ 2 * n = long ∙ len-last every n group.is_group.0 short in
      let (bytes, digits) = accepted c s (omega (arith, size)) (clear-last c group s (omega (arith, size, short)) none) in
      let count : length bytes ≡ n = omega (arith, digits.twice, size) in
      (bytes, count, spells-last c group s bytes (omega (arith, count, short)) digits)
  spelled zero n s fits long none (inl more) = absurd (omega arith)
  spelled (suc fuel) n s fits long none (inl more) =
      let len = len-more every n group.is_group.0 more in
      let inside : 2 * every < length s = omega (arith, long, len) in
      let clear = clear-part c group s inside none in
      let size = length-take-le (2 * every) s (omega (arith, inside)) in
      let rest = drop (2 * every + 1) s in
      let (x, digits) = accepted c (take (2 * every) s) (omega (arith, size)) clear.valid in
      let (y, count, behind) = spelled fuel (n - every) rest (omega (arith, fits, more, group.is_group.0))
      (omega (arith, length-drop (2 * every + 1) s, long, len)) clear.rest (cases_lt every (n - every)) in
      let one : length x ≡ every = omega (arith, digits.twice, size) in
      (x ++ y, omega (arith, length-append x y, one, count, more), spells-more c group s x y one (omega (arith, count, more)) digits clear.mark behind)

  pub read-spells : (s : List ℕ) (room : ℕ) → group_refusal c group s room ≡ None
      → (bytes : List ℕ) × GroupSpells c group s bytes × (length bytes ≤ room)
  read-spells s room h =
      let fault = option_map (λ i. InvalidByte i (slice_index s i)) (first_invalid_in_text c group s) in
      let (n, is) = has-count (byte_count every (length s)) fault room h in
      let none : refusal_of_count (Some n) fault room ≡ None = rw is at h in
      let (bytes, count, spells) = spelled n n s (omega arith) (sym (count-told every (length s) n is)) (grind (arith, nat_tests, none)) (cases_lt every n) in
      (bytes, spells, grind (arith, nat_tests, none, count))

  pub spells-read : (s bytes : List ℕ) (room : ℕ) → GroupSpells c group s bytes → length bytes ≤ room → group_refusal c group s room ≡ None
  spells-read s bytes room h fits =
      let count = count-is every (length s) (length bytes) group.is_group.0 (sym h.long) in
      rw (count, spells-clear c group bytes s h) (grind (arith, nat_tests, fits))

-- ---- the laws of reading

pub written-read : ReadingInvertsGrouping
written-read group upper bytes are =
    let both = decoding-inverts upper bytes are in
    (read-back (strict upper) group upper bytes both.0, read-back policy.None group upper bytes both.1)

pub read-spelled : ReadsWhatGroupSpells
read-spelled c group s room = (read-spells c group s room, λ w. spells-read c group s w.0 room w.1 w.2)

pub one-spelled : GroupSpellsOneList
one-spelled c group s bytes others h k = one_list c (digits_in (piece_len group) s) bytes others h.spelled k.spelled

-- ---- its bytes

-- a byte of a grouped text
abbrev pub IsDigitOrSeparator : Bool → Group → ℕ → Type 0
IsDigitOrSeparator upper group b = IsSome (value (strict upper) b) ⊎ (b ≡ separator group)

-- a byte that is not wrong
not-wrong : (at : Bool) (group : Group) (upper : Bool) (b : ℕ) (v : Option ℕ) → value (strict upper) b ≡ v
    → (if at then not (b == separator group) else is_none v) ≡ false → IsDigitOrSeparator upper group b
not-wrong true group upper b v is e = inr (grind (arith, nat_tests, e))
not-wrong false group upper b None is e = cc
not-wrong false group upper b (Some n) is e = inl (rw is refl)

pub made : (group : Group) (upper : Bool) (bytes : List ℕ) → AreBytes bytes → All (IsDigitOrSeparator upper group) (grouped group upper bytes)
made group upper bytes are =
    let none = spells-clear (strict upper) group bytes _ (written-read group upper bytes are).0 in
    All-from_get_or (IsDigitOrSeparator upper group) (grouped group upper bytes) 0 (λ k lt.
    not-wrong (k % (2 * piece_len group + 1) == 2 * piece_len group) group upper _ _ refl
    (none_told (is_invalid_in_text (strict upper) group (grouped group upper bytes)) (length (grouped group upper bytes)) none k lt))

pub text-digits : TextsAreDigits
text-digits upper bytes all =
    let none = valid-spelled (strict upper) (text upper bytes) bytes (decoding-inverts upper bytes all).0 in
    All-from_get_or (λ b. IsSome (value (strict upper) b)) (text upper bytes) 0 (λ i lt. none_valid (strict upper) (text upper bytes) none i (omega arith) lt)

-- ---- read, and written

-- what a strict policy reads is written as it stands, part by part
pub grouped-again : GroupingInvertsStrictReading
grouped-again group upper s bytes =
    let every = piece_len group in
    let n = 2 * every in
    by_pieces every group.is_group.0 (λ bytes. (s : List ℕ) → GroupSpells (strict upper) group s bytes → grouped group upper bytes ≡ s)
    (λ bytes short s h. grouped-last group upper bytes short ∙ encoding-inverts upper s bytes (last-spelled (strict upper) group s bytes short h))
    (λ bytes long again s h.
    let first = first-part (strict upper) group s bytes long h in
    let rest = again (drop (n + 1) s) first.rest in
    grouped-more group upper bytes long
    ∙ rw (encoding-inverts upper (take n s) (take every bytes) first.digits, rest) (ap (λ m. take n s ++ (m ∷ drop (n + 1) s)) (sym first.mark))
    ∙ ap (λ l. take n s ++ l) (sym (drop_more s n 0 first.long)) ∙ take-append-drop n s) bytes s

-- ---- what laws.rt promises, where it is an equation

pub ruleset laws = (grouped-again)
