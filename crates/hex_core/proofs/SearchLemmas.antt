-- The first invalid byte, by ranges of which all bytes are valid, what a refusal names, and what a probe shows.
use Rattle.std.proofs.Common.{◌≡◌, ℕ, ◌+◌, ◌-◌, ◌*◌, ◌/◌, ◌<◌, ◌≤◌, Bool, true, false, inl, inr, List, length, slice_index, Option}
use Rattle.std.proofs.Common.{Some, None, is_none, is_some, refl, sym, ◌∙◌, ap, subst, arith}
use Rattle.std.specs.Prelude.{IsSome, IsTrue, slice_range, ◌↔◌, option_map}
use Rattle.std.proofs.lemmas.Bool.{cases_lt}
use Rattle.std.proofs.lemmas.Bool.Decides.{nat_tests}
use Rattle.std.proofs.lemmas.Grind.{common_steps}
use Rattle.std.proofs.lemmas.List.Quantifiers.{position-Some}
use Rattle.hex_core.specs.declared.digit.CheckCase.{CheckCase}
use Rattle.hex_core.specs.Digit.{value}
use Rattle.hex_core.specs.inside.Looks.{looks_behind}
use Rattle.hex_core.proofs.PositionLemmas.{before_none, position_is, position_none}
use Rattle.hex_core.specs.Search.{AllValid, first_invalid, steps_to, tested_blocks}
use Rattle.hex_core.specs.declared.error.Error.TheVariants.{InvalidChar}
use Rattle.hex_core.specs.Laws.{NamesFirstInvalid}
use Rattle.hex_core.specs.Refusal.{first_invalid_char}
use Rattle.hex_core.specs.Probe.{Adds, ProbeState, SameSource, ValidIn}

-- the test of a byte that has no value
abbrev pub lacks : CheckCase → ℕ → Bool
lacks c b = is_none (value c b)

-- where no byte is invalid each has a value
pub has_value : (c : CheckCase) (s : List ℕ) (i : ℕ) → first_invalid c s ≡ None → i < length s → lacks c (slice_index s i) ≡ false
has_value c s i none h = before_none (lacks c) s none i h

-- the test for none fails where a value is there, and passes where none is
record Tests (o : Option ℕ) : Type 0 where
  fails : (is_none o ≡ false) ↔ IsSome o
  passes : is_some o ≡ false → is_none o ≡ true
  absent : is_none o ≡ true → o ≡ None

tests : (o : Option ℕ) → Tests o
tests (Some x) = record { fails = (λ e. refl, λ e. refl); passes = λ e. cc; absent = λ e. cc }
tests None = record { fails = (λ e. cc, λ e. cc); passes = λ e. refl; absent = λ e. refl }

-- what a byte reads as, along equal policies and sources
pub read_along : (c w : CheckCase) (s t : List ℕ) (i b : ℕ) (d : Option ℕ) → d ≡ value w b → w ≡ c → b ≡ slice_index t i → t ≡ s → d ≡ value c (slice_index s i)
read_along c w s t i b d read p byte q = grind (arith, common_steps)

-- the invalid byte is the place behind a valid range, if its byte has no value
pub first_invalid_is : (c : CheckCase) (s : List ℕ) (f : ℕ) → f < length s → AllValid c s 0 f → is_some (value c (slice_index s f)) ≡ false → first_invalid c s ≡ Some f
first_invalid_is c s f inside valid here =
    position_is (lacks c) s f inside (λ k lt. (tests (value c (slice_index s k))).fails.1 (valid k (omega arith) lt)) ((tests (value c (slice_index s f))).passes here)

-- there is none where the whole source is valid
pub first_invalid_none : (c : CheckCase) (s : List ℕ) → AllValid c s 0 (length s) → first_invalid c s ≡ None
first_invalid_none c s valid =
    position_none (lacks c) s (λ k lt. (tests (value c (slice_index s k))).fails.1 (valid k (omega arith) lt))

-- the whole source is valid where there is none
pub none_valid : (c : CheckCase) (s : List ℕ) → first_invalid c s ≡ None → AllValid c s 0 (length s)
none_valid c s e k low lt = (tests (value c (slice_index s k))).fails.0 (has_value c s k e lt)

-- all that is before the invalid byte is valid
pub valid_before : (c : CheckCase) (s : List ℕ) (f : ℕ) → first_invalid c s ≡ Some f → AllValid c s 0 f
valid_before c s f e k low lt =
    (tests (value c (slice_index s k))).fails.0 ((position-Some (lacks c) s f 0 e).2 k lt)

-- a valid range that begins before the invalid byte, or at it, ends no later than it
pub valid_misses : (c : CheckCase) (s : List ℕ) (f start end : ℕ) → first_invalid c s ≡ Some f → AllValid c s start end → start ≤ f → end ≤ f
valid_misses c s f start end e valid low =
    elim (cases_lt f end) [
      | inl lt ↦
          let has = (tests (value c (slice_index s f))).fails.1 (valid f low lt) in
          let lacks = (position-Some (lacks c) s f 0 e).1 in
          absurd (cc (has, lacks))
      | inr past ↦ past
    ]

-- a byte of a part, by its place in the whole
pub part_at : (s : List ℕ) (start end k : ℕ) → end ≤ length s → k < end - start → slice_index (slice_range s start end) k ≡ slice_index s (start + k)
part_at s start end k inside lt = grind (arith, common_steps)

-- a part has no invalid byte where its range is valid
pub part_valid : (c : CheckCase) (s : List ℕ) (start end : ℕ) → end ≤ length s → AllValid c s start end → first_invalid c (slice_range s start end) ≡ None
part_valid c s start end inside valid =
    first_invalid_none c (slice_range s start end) (λ k low lt.
    let short : k < end - start = grind (arith, common_steps) in
    subst (λ b. IsSome (value c b)) (sym (part_at s start end k inside short)) (valid (start + k) (omega arith) (omega arith)))

-- and its range is valid where it has none
pub valid_part : (c : CheckCase) (s : List ℕ) (start end : ℕ) → end ≤ length s → first_invalid c (slice_range s start end) ≡ None → AllValid c s start end
valid_part c s start end inside e k low lt =
    let P : ℕ → Type 0 = λ b. IsSome (value c b) in
    let long : k - start < length (slice_range s start end) = grind (arith, common_steps) in
    let place : start + (k - start) ≡ k = omega arith in
    let read = none_valid c (slice_range s start end) e (k - start) (omega arith) long in
    subst P (part_at s start end (k - start) inside (omega arith) ∙ ap (slice_index s) place) read

-- the tested blocks are within the source
pub tests_within : (len : ℕ) → 64 * tested_blocks len ≤ len
tests_within len = grind (arith, nat_tests)

-- a block behind a valid range that does not pass is the invalid byte's
first_invalid_block : (c : CheckCase) (s : List ℕ) (f i : ℕ) → first_invalid c s ≡ Some f → AllValid c s 0 (64 * i) → ¬ AllValid c s (64 * i) (64 * i + 64) → f / 64 ≡ i
first_invalid_block c s f i e valid fails =
    let low : 64 * i ≤ f = valid_misses c s f 0 (64 * i) e valid (omega arith) in
    elim (cases_lt f (64 * i + 64)) [
      | inl lt ↦ omega arith
      | inr past ↦ absurd (fails (λ k a b. valid_before c s f e k (omega arith) (omega arith)))
    ]

-- at a block that does not pass, the tests end and the looks begin
pub stops_at_block : (c : CheckCase) (s : List ℕ) (i whole : ℕ) (o : Option ℕ) → first_invalid c s ≡ o → whole ≡ tested_blocks (length s) → i < whole → AllValid c s 0 (64 * i) → ¬ AllValid c s (64 * i) (64 * i + 64) → (64 * i ≡ looks_behind (length s) o) × ((steps_to (length s) o).tests ≡ i + 1)
stops_at_block c s i whole (Some f) e all inside valid fails =
    let same = first_invalid_block c s f i e valid fails in
    (omega arith, omega arith)
stops_at_block c s i whole None e all inside valid fails =
    absurd (fails (λ k low lt. none_valid c s e k (omega arith) (omega (arith, tests_within (length s)))))

-- behind the whole blocks likewise, where each one passed
pub stops_at_end : (c : CheckCase) (s : List ℕ) (whole : ℕ) (o : Option ℕ) → first_invalid c s ≡ o → whole ≡ tested_blocks (length s) → AllValid c s 0 (64 * whole) → (64 * whole ≡ looks_behind (length s) o) × ((steps_to (length s) o).tests ≡ whole)
stops_at_end c s whole (Some f) e all valid =
    let low = valid_misses c s f 0 (64 * whole) e valid (omega arith) in
    (omega arith, omega arith)
stops_at_end c s whole None e all valid = (omega arith, sym all)

-- the looks begin at most 64 bytes before the invalid byte or the end
pub looks_near : (c : CheckCase) (s : List ℕ) (start i : ℕ) (o : Option ℕ) → first_invalid c s ≡ o → start ≡ looks_behind (length s) o → AllValid c s 0 i → i < length s → i < start + 64
looks_near c s start i (Some f) e from valid inside =
    let before : i ≤ f = valid_misses c s f 0 i e valid (omega arith) in
    let there : f < length s = (position-Some (lacks c) s f 0 e).0 in
    grind (arith, nat_tests)
looks_near c s start i None e from valid inside = grind (arith, nat_tests)

-- and end behind the one, or at the other
pub looks_found : (c : CheckCase) (s : List ℕ) (start f : ℕ) (o : Option ℕ) → first_invalid c s ≡ o → o ≡ Some f → start ≡ looks_behind (length s) o → start + (steps_to (length s) o).looks ≡ f + 1
looks_found c s start f (Some g) e is from =
    let there : g < length s = (position-Some (lacks c) s g 0 e).0 in
    grind (arith, nat_tests)
looks_found c s start f None e is from = cc

pub looks_ended : (s : List ℕ) (start : ℕ) (o : Option ℕ) → o ≡ None → start ≡ looks_behind (length s) o → start + (steps_to (length s) o).looks ≡ length s
looks_ended s start (Some g) is from = cc
looks_ended s start None is from = omega (arith, tests_within (length s))

-- a place is the first invalid byte exactly where it is in the source, has no value, and all before
-- it have one
pub first_is_first : (c : CheckCase) (s : List ℕ) (f : ℕ) → first_invalid c s ≡ Some f → (f < length s) × (value c (slice_index s f) ≡ None) × AllValid c s 0 f
first_is_first c s f e =
    let found = position-Some (lacks c) s f 0 e in
    (found.0, (tests (value c (slice_index s f))).absent found.1, valid_before c s f e)

pub exactly_first : (c : CheckCase) (s : List ℕ) (f : ℕ) → (first_invalid c s ≡ Some f) ↔ ((f < length s) × (value c (slice_index s f) ≡ None) × AllValid c s 0 f)
exactly_first c s f = (first_is_first c s f, λ (inside, here, before). first_invalid_is c s f inside before (rw here refl))

-- there is none exactly where the whole source is valid
pub none_is_all_valid : (c : CheckCase) (s : List ℕ) → (first_invalid c s ≡ None) ↔ AllValid c s 0 (length s)
none_is_all_valid c s = (none_valid c s, first_invalid_none c s)

-- a part has no invalid byte exactly where all bytes of its range are valid
pub part_is_valid : (c : CheckCase) (s : List ℕ) (start end : ℕ) → end ≤ length s → (first_invalid c (slice_range s start end) ≡ None) ↔ AllValid c s start end
part_is_valid c s start end inside = (valid_part c s start end inside, part_valid c s start end inside)

-- so what tests that a part has no invalid byte tests that all bytes of its range are valid
pub part_tested : (c : CheckCase) (s : List ℕ) (start end : ℕ) (t : Bool) → end ≤ length s → IsTrue t ↔ (first_invalid c (slice_range s start end) ≡ None) → IsTrue t ↔ AllValid c s start end
part_tested c s start end t inside test = (
  λ passed. valid_part c s start end inside (test.0 passed),
  λ valid. test.1 (part_valid c s start end inside valid),
)

-- ---- what a refusal that is an invalid character names

-- the first bad character is the first invalid byte
bad_char_is_first : (c : CheckCase) (s : List ℕ) (o : Option ℕ) → first_invalid c s ≡ o → (i b : ℕ)
    → option_map (λ f. InvalidChar f (slice_index s f)) o ≡ Some (InvalidChar i b) → (first_invalid c s ≡ Some i) × (b ≡ slice_index s i) × (value c b ≡ None) × (i < length s)
bad_char_is_first c s (Some f) e i b h =
    let first = first_is_first c s f e in let none = first.1 in let same : f ≡ i = cc h in
    (cc (e, h), cc h, cc (h, none), subst (λ i. i < length s) same first.0)
bad_char_is_first c s None e i b h = absurd (cc h)

pub invalid_char_names_first : NamesFirstInvalid first_invalid_char
invalid_char_names_first c s i b h = bad_char_is_first c s (first_invalid c s) refl i b h

-- ---- what a probe shows, along calls that leave its source, policy and block

pub same_then : (a b c : ProbeState) → SameSource a b → SameSource b c → SameSource a c
same_then a b c p q = (q.0 ∙ p.0, q.1 ∙ p.1, q.2 ∙ p.2)

-- no steps, and some steps and then some more
pub adds_none : (a : ProbeState) → Adds 0 0 a a
adds_none a = (omega arith, omega arith, (refl, refl, refl))

pub adds_then : (a b c : ProbeState) (m n k l looks tests : ℕ) → looks ≡ m + k → tests ≡ n + l → Adds m n a b → Adds k l b c → Adds looks tests a c
adds_then a b c m n k l looks tests is_looks is_tests p q = (omega (arith, p.0, q.0), omega (arith, p.1, q.1), same_then a b c p.2 q.2)

-- a range is valid in both, or in neither
pub valid_same : (a b : ProbeState) (start end : ℕ) → SameSource a b → ValidIn b start end ↔ ValidIn a start end
valid_same a b start end same = grind (arith, common_steps)
