-- What the arithmetic of the lanes makes of a byte, computed at all of them, and its hash beside each neighbour.
use Rattle.std.proofs.Common.{◌≡◌, ℕ, zero, suc, ◌+◌, ◌-◌, ◌/◌, ◌%◌, ◌^◌, ◌<◌, ◌↔◌, Bool, true, false, cond, List, [], ◌∷◌, map}
use Rattle.std.proofs.Common.{length, get_or, Option, Some, None, is_some, bit_and, refl, sym, ap, ap₂, ◌∙◌, Fits, w8, eqb, leb}
use Rattle.std.proofs.Common.{ltb, eqb-true, leb-true, ltb-true, lt-ltb, arith, bit_xor, subst}
use Rattle.std.specs.Prelude.{EachIndex, IfSome, IsSome, IsTrue, min}
use Rattle.std.specs.Int.{bit_at}
use Rattle.std.proofs.lemmas.Bool.{agree_below, agree_below_at}
use Rattle.std.proofs.lemmas.Bool.Decides.{nat_tests}
use Rattle.std.proofs.lemmas.List.{get_or-map, length-map}
use Rattle.std.proofs.lemmas.Nat.{and_mask}
use Rattle.std.proofs.lemmas.Nat.Bits.{bit_at-suc, bit_at_lowest, bit_at_ones}
use Rattle.std.proofs.lemmas.Simd.{bit_mask_l, map-map, mask_l-lt, zip2-map, zip2_splat}
use lib.Lanes.{Each1, mask_l, zip2}
use Rattle.hex_core.specs.declared.digit.CheckCase.{CheckCase}
use Rattle.hex_core.specs.declared.digit.CheckCase.TheVariants as policy
use Rattle.hex_core.specs.inside.Arithmetic.{AreClear, interleaved, letter, saturating_add, valid_nibble, wrapping_sub}
use Rattle.hex_core.specs.Digit.{digit, value}
use Rattle.hex_core.specs.Search.{AllValid}
use Rattle.hex_core.specs.Lanes.{Admits, AreNibbles, AreValues, IsNibble, AreChecked}
use Rattle.hex_core.specs.inside.Rows.{long_nibble, long_row, mark, mark_mask, short_nibble, value_row}
use Rattle.hex_core.specs.inside.Tables.{entry, long_entry}
use Rattle.hex_core.specs.Text.{text}
use Rattle.hex_core.proofs.LaneLemmas.{lane_below, mapped, mapped_at, maps_agree, passes_where, zipped_at}
use Rattle.hex_core.specs.inside.Hash.{IsHash, check_row, hash, hashed_check, hashed_value}

abbrev pub has : CheckCase → ℕ → Bool
has c b = is_some (value c b)

abbrev pub always : ℕ → Bool
always _ = true

-- ---- every map at every byte

-- how far a byte is past the digits, or past the letters if that is less: 0 exactly where there is a value
abbrev pub excess : CheckCase → ℕ → ℕ
excess c b = min (wrapping_sub b 48 - 9) (letter c b - 5)

-- a byte's value, or at least 16: for a byte that is no digit (no letter) the first (second) number is large
abbrev pub saturated : CheckCase → ℕ → ℕ
saturated c b = min (wrapping_sub (wrapping_sub b 58 - 6) 240) (saturating_add (letter c b) 10)

-- whether a number stands for the value
abbrev pub nibble_test : Option ℕ → ℕ → Bool
nibble_test (Some v) n = eqb n v
nibble_test None n = leb 16 n

pub nibble_by : (o : Option ℕ) (n : ℕ) → nibble_test o n ≡ true → IsNibble o n
nibble_by (Some v) n e = eqb-true n v e
nibble_by None n e = leb-true 16 n e

-- whether it is the value, where there is one
abbrev pub value_test : Option ℕ → ℕ → Bool
value_test (Some v) n = eqb n v
value_test None n = true

pub value_by : (o : Option ℕ) (n : ℕ) → value_test o n ≡ true → IfSome o (λ v. n ≡ v)
value_by (Some v) n e = eqb-true n v e
value_by None n e = tt

-- the excess, the saturating map and the shorter one for bytes that have a value are right, computed at all bytes
maps_are_right : (c : CheckCase)
    → (agree_below (λ b. eqb (excess c b) 0) (has c) 256 ≡ true)
    × (agree_below (λ b. nibble_test (value c b) (saturated c b)) always 256 ≡ true) × (agree_below (λ b. value_test (value c b) (valid_nibble b)) always 256 ≡ true)
maps_are_right policy.None = (refl, refl, refl)
maps_are_right policy.Lower = (refl, refl, refl)
maps_are_right policy.Upper = (refl, refl, refl)

-- ---- the range tests

-- all bytes pass where what is computed of each has a property that says so
valid_where : (c : CheckCase) (f : ℕ → ℕ) (Q : ℕ → Type 0) → ((b : ℕ) → b < 256 → Q (f b) ↔ IsSome (value c b))
    → (v r : List ℕ) (n : ℕ) → (length v ≡ n) × Each1 (Fits w8) v → r ≡ map f v → EachIndex r (λ i. Q (get_or r i 0)) ↔ AllValid c v 0 n
valid_where c f Q test v r n fits is =
    let all = passes_where f Q (λ b. IsSome (value c b)) test v fits.1 is in
    (λ passes k low lt. all.0 passes k (omega (arith, fits.0)), λ valid. all.1 (λ k h. valid k (omega arith) (omega (arith, fits.0))))

-- an excess is 0 for the same bytes
excess_zero : (c : CheckCase) (b : ℕ) → b < 256 → eqb (excess c b) 0 ≡ has c b
excess_zero c b h = agree_below_at (λ x. eqb (excess c x) 0) (has c) 256 b (maps_are_right c).0 h

-- the mask of the bytes that have a value, and its bits
pub admitted_mask : (c : CheckCase) (v e : List ℕ) (m : ℕ) → Each1 (Fits w8) v → e ≡ map (excess c) v → m ≡ mask_l (map (λ x. eqb x 0) e) → m ≡ mask_l (map (has c) v)
admitted_mask c v e m fits lanes is =
    is ∙ ap mask_l (mapped (λ x. eqb x 0) (excess c) v lanes ∙ maps_agree (λ b. eqb (excess c b) 0) (has c) (excess_zero c) v fits)

bit_says : (b : Bool) (n : ℕ) → n ≡ cond b 1 0 → (n ≡ 1) ↔ (b ≡ true)
bit_says true n e = (λ x. refl, λ x. e)
bit_says false n e = (λ x. absurd (omega arith), λ x. cc)

pub admits : (c : CheckCase) (v : List ℕ) (m : ℕ) → m ≡ mask_l (map (has c) v) → Admits c v m
admits c v m is i h =
    bit_says (has c (get_or v i 0)) (bit_at m i) (ap (λ x. bit_at x i) is ∙ bit_mask_l (map (has c) v) i ∙ ap (λ b. cond b 1 0) (get_or-map (has c) v i 0 false h))

pub mask_below : (c : CheckCase) (v : List ℕ) (m n : ℕ) → m ≡ mask_l (map (has c) v) → length v ≡ n → m < 2 ^ n
mask_below c v m n is long = rw (is, ← long, ← length-map v (has c)) (mask_l-lt (map (has c) v))

-- the mask of one byte is 1 exactly where it has a value
pub mask_of_one : (c : CheckCase) {m : ℕ} (v : List ℕ) → length v ≡ 1 → m ≡ mask_l (map (has c) v) → IsTrue (eqb m 1) ↔ AllValid c v 0 1
mask_of_one c {m} v long is =
    let bit = admits c v m is 0 (omega arith) in let small = mask_below c v m 1 is long in let lowest = bit_at_lowest m in (
      λ t k low lt. subst (λ i. IsSome (value c (get_or v i 0))) (omega arith) (bit.0 (lowest ∙ ap (λ n. n % 2) (eqb-true m 1 t))),
      λ valid.
          let set : bit_at m 0 ≡ 1 = bit.1 (valid 0 (omega arith) (omega arith)) in
          let one : m ≡ 1 = omega (arith, set, lowest, small) in
          rw one refl,
    )

-- a mask with every bit set
full_mask : (n m : ℕ) → m < 2 ^ n → ((i : ℕ) → i < n → bit_at m i ≡ 1) → m + 1 ≡ 2 ^ n
full_mask zero m h all = omega arith
full_mask (suc n) m h all =
    let low : m % 2 ≡ 1 = sym (bit_at_lowest m) ∙ all 0 (omega arith) in
    let rest : m / 2 + 1 ≡ 2 ^ n = full_mask n (m / 2) (omega arith) (λ i lt. sym (bit_at-suc m i) ∙ all (suc i) (omega arith)) in
    omega (arith, low, rest)

-- the mask of sixteen bytes is full exactly where each has a value
pub full_16 : (c : CheckCase) (v : List ℕ) (m : ℕ) → length v ≡ 16 → m < 65536 → Admits c v m → (m ≡ 65535) ↔ AllValid c v 0 16
full_16 c v m long small admits = (
  λ e k low lt. (admits k (omega arith)).0 (rw e (bit_at_ones 16 k lt)),
  λ valid. omega (arith, full_mask 16 m small (λ i lt. (admits i (omega arith)).1 (valid i (omega arith) lt))),
)

-- ---- the saturating map

-- a map that is right at all bytes
nibbles_where : (c : CheckCase) (f : ℕ → ℕ) → agree_below (λ b. nibble_test (value c b) (f b)) always 256 ≡ true
    → (v r : List ℕ) → Each1 (Fits w8) v → r ≡ map f v → AreNibbles c v r
nibbles_where c f right v r fits is i h =
    let b = get_or v i 0 in
    let test = agree_below_at (λ x. nibble_test (value c x) (f x)) always 256 b right (lane_below v fits i) in
    rw (mapped_at f v i is h) (nibble_by (value c b) (f b) test)

-- and one that is right where a byte has a value
values_where : (c : CheckCase) (f : ℕ → ℕ) → agree_below (λ b. value_test (value c b) (f b)) always 256 ≡ true
    → (v r : List ℕ) → Each1 (Fits w8) v → r ≡ map f v → AreValues c v r
values_where c f right v r fits is i h =
    let b = get_or v i 0 in
    let test = agree_below_at (λ x. value_test (value c x) (f x)) always 256 b right (lane_below v fits i) in
    rw (mapped_at f v i is h) (value_by (value c b) (f b) test)

pub saturated_nibbles : (c : CheckCase) (v r : List ℕ) → Each1 (Fits w8) v → r ≡ map (saturated c) v → AreNibbles c v r
saturated_nibbles c = nibbles_where c (saturated c) (maps_are_right c).1

-- ---- the maps that look rows up

-- marks and values are right, computed at all bytes
rows_are_right : (c : CheckCase)
    → (agree_below (λ b. eqb (bit_and (mark c b) (mark_mask c)) 0) (has c) 256 ≡ true) × (agree_below (λ b. nibble_test (value c b) (short_nibble c b)) always 256 ≡ true)
    × (agree_below (λ b. eqb (bit_and (long_nibble c b) 240) 0) (has c) 256 ≡ true) × (agree_below (λ b. nibble_test (value c b) (long_nibble c b)) always 256 ≡ true)
    × (agree_below (λ b. value_test (value c b) (long_entry value_row b)) always 256 ≡ true)
unfolding long_row value_row
rows_are_right policy.None = (refl, refl, refl, refl, refl)
rows_are_right policy.Lower = (refl, refl, refl, refl, refl)
rows_are_right policy.Upper = (refl, refl, refl, refl, refl)

-- all bytes pass for no bit of a mask
marks_where : (c : CheckCase) (f : ℕ → ℕ) (m : ℕ) → agree_below (λ b. eqb (bit_and (f b) m) 0) (has c) 256 ≡ true
    → (v r : List ℕ) (n : ℕ) → (length v ≡ n) × Each1 (Fits w8) v → r ≡ map f v → AreClear m r ↔ AllValid c v 0 n
marks_where c f m right v r n fits is =
    let test : (b : ℕ) → b < 256 → (bit_and (f b) m ≡ 0) ↔ IsSome (value c b) = λ b h.
    let same = agree_below_at (λ x. eqb (bit_and (f x) m) 0) (has c) 256 b right h in
    (λ e. sym same ∙ ap (λ x. eqb x 0) e, λ s. eqb-true _ 0 (same ∙ s)) in
    valid_where c f (λ x. bit_and x m ≡ 0) test v r n fits is

pub short_marks : (c : CheckCase) (v r : List ℕ) (n : ℕ) → (length v ≡ n) × Each1 (Fits w8) v → r ≡ map (mark c) v → AreClear (mark_mask c) r ↔ AllValid c v 0 n
short_marks c = marks_where c (mark c) (mark_mask c) (rows_are_right c).0

pub short_nibbles : (c : CheckCase) (v r : List ℕ) → Each1 (Fits w8) v → r ≡ map (short_nibble c) v → AreNibbles c v r
short_nibbles c = nibbles_where c (short_nibble c) (rows_are_right c).1

-- numbers of at least 16 have one of the four high bits
pub long_marks : (c : CheckCase) (v r : List ℕ) (n : ℕ) → (length v ≡ n) × Each1 (Fits w8) v → r ≡ map (long_nibble c) v → AreClear 240 r ↔ AllValid c v 0 n
long_marks c = marks_where c (long_nibble c) 240 (rows_are_right c).2

pub long_nibbles : (c : CheckCase) (v r : List ℕ) → Each1 (Fits w8) v → r ≡ map (long_nibble c) v → AreNibbles c v r
long_nibbles c = nibbles_where c (long_nibble c) (rows_are_right c).3

pub long_values : (c : CheckCase) (v r : List ℕ) → Each1 (Fits w8) v → r ≡ map (long_entry value_row) v → AreValues c v r
long_values c = values_where c (long_entry value_row) (rows_are_right c).4

-- ---- the value of a byte that has one

pub value_small : (c : CheckCase) (b v : ℕ) → value c b ≡ Some v → v < 16
value_small policy.None b v h = grind (arith, nat_tests)
value_small policy.Lower b v h = grind (arith, nat_tests)
value_small policy.Upper b v h = grind (arith, nat_tests)

-- ---- the digits of a byte

-- halves in turn, each looked up, are the text
pub shuffled_text : (upper : Bool) (row v : List ℕ) → ((n : ℕ) → n < 16 → get_or row n 0 ≡ digit upper n) → Each1 (Fits w8) v
    → map (entry row) (interleaved (map (λ b. b / 16) v) (map (λ b. bit_and b 15) v)) ≡ text upper v
shuffled_text upper row [] digits fits = refl
shuffled_text upper row (b ∷ v) digits fits =
    let byte : b < 256 = fits.0.fits in
    let read : (n : ℕ) → n < 16 → entry row n ≡ digit upper n = λ n small. grind (arith, nat_tests, digits n small) in
    ap₂ (λ a r. a ∷ r) (read (b / 16) (omega arith))
    (ap₂ (λ a r. a ∷ r) (ap (entry row) (and_mask b 4) ∙ read (b % 16) (omega arith)) (shuffled_text upper row v digits fits.1))

interleaved_map : (f : ℕ → ℕ) (a b : List ℕ) → interleaved (map f a) (map f b) ≡ map f (interleaved a b)
interleaved_map f [] b = refl
interleaved_map f (x ∷ a) [] = refl
interleaved_map f (x ∷ a) (y ∷ b) = ap (λ l. f x ∷ f y ∷ l) (interleaved_map f a b)

-- looked-up halves in turn are the text too
pub looked_text : (upper : Bool) (row v : List ℕ) → ((n : ℕ) → n < 16 → get_or row n 0 ≡ digit upper n) → Each1 (Fits w8) v
    → interleaved (map (entry row) (map (λ b. b / 16) v)) (map (entry row) (map (λ b. bit_and b 15) v)) ≡ text upper v
looked_text upper row v digits fits = interleaved_map (entry row) (map (λ b. b / 16) v) (map (λ b. bit_and b 15) v) ∙ shuffled_text upper row v digits fits

-- ---- nibbles

pub nibbles_values : (c : CheckCase) (v r : List ℕ) → AreNibbles c v r → AreValues c v r
nibbles_values c v r are i h = grind (arith, nat_tests, are i h)

pub valid_values : (c : CheckCase) (v r : List ℕ) → Each1 (Fits w8) v → r ≡ map valid_nibble v → AreValues c v r
valid_values c = values_where c valid_nibble (maps_are_right c).2

-- the values of bytes that have one
pub value_is : (o : Option ℕ) (n : ℕ) → IsSome o → IfSome o (λ v. n ≡ v) → o ≡ Some n
value_is (Some v) n s e = ap Some (sym e)
value_is None n s e = cc

-- ---- the hash of a byte

-- ---- one byte

-- check and value are right beside each neighbour
all_right : (c : CheckCase)
    → (agree_below (λ b. agree_below (λ k. ltb (hashed_check c b (hash b k)) 128) (λ _. has c b) 8) always 256 ≡ true)
    × (agree_below (λ b. agree_below (λ k. value_test (value c b) (hashed_value b (hash b k))) always 8) always 256 ≡ true)
all_right policy.None = (refl, refl)
all_right policy.Lower = (refl, refl)
all_right policy.Upper = (refl, refl)

is_right : (f g : ℕ → ℕ → Bool) → agree_below (λ b. agree_below (f b) (g b) 8) always 256 ≡ true → (b k : ℕ) → b < 256 → k < 8 → f b k ≡ g b k
is_right f g all b k B K = agree_below_at (f b) (g b) 8 k (agree_below_at (λ x. agree_below (f x) (g x) 8) always 256 b all B) K

-- ---- the lanes

-- the difference between two turns of the sign
pub checks_are : (c : CheckCase) (v w : List ℕ)
    → map (λ x. bit_xor x 128) (zip2 (λ x y. x - y) (map (λ x. bit_xor x 128) v) (map (entry (check_row c)) w)) ≡ zip2 (hashed_check c) v w
checks_are c [] w = refl
checks_are c (x ∷ v) [] = refl
checks_are c (x ∷ v) (y ∷ w) = ap (λ l. hashed_check c x y ∷ l) (checks_are c v w)

-- the values, and the checks, of the bytes of a block
pub values_right : (c : CheckCase) (v slots : List ℕ) {r : List ℕ} → ((i : ℕ) → get_or v i 0 < 256) → length slots ≡ length v → EachIndex v (λ i. IsHash (get_or v i 0) (get_or slots i 0)) → r ≡ zip2 hashed_value v slots → AreValues c v r
values_right c v slots small same hashed is i h =
    let b = get_or v i 0 in let s = hashed i h in
    let test = is_right (λ x k. value_test (value c x) (hashed_value x (hash x k))) (λ x k. true) (all_right c).1 b s.0 (small i) s.1 in
    rw (zipped_at hashed_value v slots i is h (omega arith), s.2) (value_by (value c b) (hashed_value b (hash b s.0)) test)

pub checks_right : (c : CheckCase) (v slots : List ℕ) {r : List ℕ} → ((i : ℕ) → get_or v i 0 < 256) → length slots ≡ length v → EachIndex v (λ i. IsHash (get_or v i 0) (get_or slots i 0)) → r ≡ zip2 (hashed_check c) v slots → AreChecked c v r
checks_right c v slots {r} small same hashed is i h =
    let b = get_or v i 0 in let s = hashed i h in
    let test = is_right (λ x k. ltb (hashed_check c x (hash x k)) 128) (λ x k. has c x) (all_right c).0 b s.0 (small i) s.1 in
    let q : ltb (get_or r i 0) 128 ≡ has c b = rw (zipped_at (hashed_check c) v slots i is h (omega arith), s.2) test in
    (λ lt. sym q ∙ lt-ltb (get_or r i 0) 128 lt, λ t. ltb-true (get_or r i 0) 128 (q ∙ t))

-- ---- what digit_lanes.rt names

pub ruleset bytes = (map-map, nibbles_values, saturated_nibbles, shuffled_text, zip2-map, zip2_splat)
