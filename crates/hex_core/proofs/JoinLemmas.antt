-- Sources in a row: what they spell, and the first invalid byte of them all.
use Rattle.std.proofs.Common.{◌≡◌, inl, inr, ℕ, ◌+◌, ◌-◌, ◌*◌, ◌/◌, ◌%◌, List, ◌++◌, length, take, drop, length-append, length-drop}
use Rattle.std.proofs.Common.{get_or, None, sym, arith}
use Rattle.std.proofs.lemmas.Bool.{cases_lt}
use Rattle.std.proofs.lemmas.List.{get_or-drop, get_or_append_left}
use Rattle.std.proofs.lemmas.Grind.{common_steps}
use Rattle.hex_core.specs.declared.digit.CheckCase.{CheckCase}
use Rattle.hex_core.specs.Search.{first_invalid}
use Rattle.hex_core.specs.Text.{Spells}
use Rattle.hex_core.proofs.PositionLemmas.{none_joined}
use Rattle.hex_core.proofs.SearchLemmas.{lacks}
use Rattle.hex_core.proofs.SpellsLemmas.{front_spells, spelled_along}

-- a byte of the second of two sources
pub back_at : (a b : List ℕ) (i all : ℕ) → all ≡ length a + i → get_or (a ++ b) all 0 ≡ get_or b i 0
back_at a b i all place = grind (arith, common_steps)

-- ---- what they spell

pub spells-joined : (c : CheckCase) (front back xs ys : List ℕ) → Spells c front xs → Spells c back ys → Spells c (front ++ back) (xs ++ ys)
spells-joined c a b x y first second =
    let both = length-append x y in let one = first.twice in let two = second.twice in
    record {
      twice = omega (arith, length-append a b);
      each = λ i lt. elim (cases_lt i (length x)) [
        | inl left ↦ spelled_along (first.each i left) (get_or_append_left a b 0 (2 * i) (omega arith)) (get_or_append_left a b 0 (2 * i + 1) (omega arith)) (get_or_append_left x y 0 i left)
        | inr right ↦
            let j = i - length x in
            spelled_along (second.each j (omega arith)) (back_at a b (2 * j) (2 * i) (omega arith)) (back_at a b (2 * j + 1) (2 * i + 1) (omega arith)) (back_at x y j i (omega arith))
      ];
    }

-- a source that spells a list, cut behind a whole pair, spells its two parts
pub spells-parts : (c : CheckCase) (front back bytes : List ℕ) → length front % 2 ≡ 0 → Spells c (front ++ back) bytes
    → Spells c front (take (length front / 2) bytes) × Spells c back (drop (length front / 2) bytes)
spells-parts c a b bytes even spells =
    let n = length a / 2 in
    let half : length a ≡ 2 * n = omega arith in
    let all = length-append a b in let twice = spells.twice in let size = length-drop n bytes in (
      front_spells c (a ++ b) a bytes n half (omega arith) (λ k lt. sym (get_or_append_left a b 0 k (omega arith))) (λ i lt. spells.each i (omega arith)),
      record {
        twice = omega arith;
        each = λ i lt.
            spelled_along (spells.each (n + i) (omega arith)) (sym (back_at a b (2 * i) (2 * (n + i)) (omega arith)))
            (sym (back_at a b (2 * i + 1) (2 * (n + i) + 1) (omega arith))) (get_or-drop n bytes i 0);
      },
    )

-- ---- their first invalid byte

pub valid-both : (c : CheckCase) (a b : List ℕ) → first_invalid c a ≡ None → first_invalid c b ≡ None → first_invalid c (a ++ b) ≡ None
valid-both c a b first second = (none_joined (lacks c) a b).1 (first, second)

pub valid-parts : (c : CheckCase) (a b : List ℕ) → first_invalid c (a ++ b) ≡ None → (first_invalid c a ≡ None) × (first_invalid c b ≡ None)
valid-parts c a b = (none_joined (lacks c) a b).0
