-- The first place of a list that passes a test.
use Rattle.std.proofs.Common.{◌≡◌, ℕ, ◌+◌, ◌-◌, ◌<◌, ◌≤◌, ◌↔◌, Bool, true, false, not, inl, inr, List, ◌++◌}
use Rattle.std.proofs.Common.{length, length-append, slice_index, Option, Some, None, option_map, refl, ◌∙◌, arith}
use Rattle.std.specs.Option.{option_or}
use Rattle.std.specs.Prelude.{position}
use Rattle.std.specs.List.{position_or_len, range_with_len}
use Rattle.std.proofs.lemmas.Bool.{cases_lt}
use Rattle.std.proofs.lemmas.Bool.Decides.{nat_tests}
use Rattle.std.proofs.lemmas.Grind.{common_steps}
use Rattle.std.proofs.lemmas.List.Folds.{prefix_len-append}
use Rattle.std.proofs.lemmas.List.FromFn.{get_or-range_with_len, length-range_with_len}
use Rattle.std.proofs.lemmas.List.Quantifiers.{position-Some}
use Rattle.std.proofs.lemmas.List.Sums.{fails_before_first, position_or_len_is, prefix_len-le-length}

pub position_is : (p : ℕ → Bool) (s : List ℕ) (i : ℕ) → i < length s → ((k : ℕ) → k < i → p (slice_index s k) ≡ false) → p (slice_index s i) ≡ true
    → position p s ≡ Some i
position_is p s i inside before here =
    let at : position_or_len p s ≡ i = position_or_len_is p s i 0 (omega arith) before (λ _. here) in
    grind (arith, common_steps)

pub position_none : (p : ℕ → Bool) (s : List ℕ) → ((k : ℕ) → k < length s → p (slice_index s k) ≡ false) → position p s ≡ None
position_none p s before =
    let at : position_or_len p s ≡ length s = position_or_len_is p s (length s) 0 (omega arith) before (λ h. absurd (omega arith)) in
    grind (arith, common_steps)

-- where no place is the first, none passes
pub before_none : (p : ℕ → Bool) (s : List ℕ) → position p s ≡ None → (k : ℕ) → k < length s → p (slice_index s k) ≡ false
before_none p s e k inside =
    let past : length s ≤ position_or_len p s = grind (arith, common_steps) in
    fails_before_first p s k 0 (omega arith)

-- that of a joined list is that of the first list, and else that of the second
pub position-joined : (p : ℕ → Bool) (a b : List ℕ) → position p (a ++ b) ≡ option_or (position p a) (option_map (λ i. length a + i) (position p b))
position-joined p a b =
    let le = prefix_len-le-length (λ x. not (p x)) a in let k = prefix_len-append (λ x. not (p x)) a b in let n = length-append a b in
    grind (arith, nat_tests, le, k, n)

-- so it has none exactly where neither list has one
neither : (o p : Option ℕ) (n : ℕ) → (option_or o (option_map (λ i. n + i) p) ≡ None) ↔ ((o ≡ None) × (p ≡ None))
neither (Some i) p n = (λ e. cc, λ (x, y). cc)
neither None (Some i) n = (λ e. cc, λ (x, y). cc)
neither None None n = (λ e. (refl, refl), λ _. refl)

pub none_joined : (p : ℕ → Bool) (a b : List ℕ) → (position p (a ++ b) ≡ None) ↔ ((position p a ≡ None) × (position p b ≡ None))
none_joined p a b = rw (position-joined p a b) (neither (position p a) (position p b) (length a))

-- ---- the least number that passes

number_at : (n k : ℕ) → k < n → slice_index (range_with_len 0 n) k ≡ k
number_at n k lt = get_or-range_with_len 0 n k 0 lt ∙ omega arith

pub least_is : (p : ℕ → Bool) (n i : ℕ) → i < n → ((k : ℕ) → k < i → p k ≡ false) → p i ≡ true → position p (range_with_len 0 n) ≡ Some i
least_is p n i inside before here =
    position_is p (range_with_len 0 n) i (omega (arith, length-range_with_len 0 n)) (λ k lt. rw (number_at n k (omega arith)) (before k lt))
    (rw (number_at n i inside) here)

pub least_none : (p : ℕ → Bool) (n : ℕ) → ((k : ℕ) → k < n → p k ≡ false) → position p (range_with_len 0 n) ≡ None
least_none p n never =
    position_none p (range_with_len 0 n) (λ k lt. let inside : k < n = omega (arith, lt, length-range_with_len 0 n) in rw (number_at n k inside) (never k inside))

-- what is known of it
pub record Least (p : ℕ → Bool) (n i : ℕ) : Type 0 where
  pub inside : i < n
  pub here : p i ≡ true
  pub before : (k : ℕ) → k < i → p k ≡ false

pub least_told : (p : ℕ → Bool) (n i : ℕ) → position p (range_with_len 0 n) ≡ Some i → Least p n i
least_told p n i e =
    let told = position-Some p (range_with_len 0 n) i 0 e in
    let inside : i < n = omega (arith, told.0, length-range_with_len 0 n) in
    record { inside = inside; here = rw (number_at n i inside) at told.1; before = λ k lt. rw (number_at n k (omega arith)) at (told.2 k lt) }

pub none_told : (p : ℕ → Bool) (n : ℕ) → position p (range_with_len 0 n) ≡ None → (k : ℕ) → k < n → p k ≡ false
none_told p n e k lt = rw (number_at n k lt) at (before_none p (range_with_len 0 n) e k (omega (arith, lt, length-range_with_len 0 n)))

-- behind numbers that do not pass it is that of the rest
pub least_behind : (p q : ℕ → Bool) (m n : ℕ) → ((k : ℕ) → k < m → p k ≡ false) → ((k : ℕ) → q k ≡ p (m + k))
    → position p (range_with_len 0 (m + n)) ≡ option_map (λ i. m + i) (position q (range_with_len 0 n))
least_behind p q m n front same = from_rest (position q (range_with_len 0 n)) refl
  where
    before : (end : ℕ) → ((k : ℕ) → k < end → q k ≡ false) → (k : ℕ) → k < m + end → p k ≡ false
    before end rest k lt =
        elim (cases_lt k m) [
          | inl low ↦ front k low
          | inr high ↦
              let place : k ≡ m + (k - m) = omega arith in
              rw place (rw (same (k - m)) at (rest (k - m) (omega arith)))
        ]

    from_rest : (o : Option ℕ) → position q (range_with_len 0 n) ≡ o → position p (range_with_len 0 (m + n)) ≡ option_map (λ i. m + i) o
    from_rest None e = least_none p (m + n) (before n (none_told q n e))
    from_rest (Some i) e =
        let told = least_told q n i e in
        least_is p (m + n) (m + i) (omega (arith, told.inside)) (before i told.before) (rw (same i) at told.here)
