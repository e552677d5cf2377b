-- The laws of digits, texts and what they spell.
use Rattle.std.proofs.Common.{◌≡◌, ℕ, List, ◌+◌, ◌*◌, ◌/◌, ◌%◌, ◌<◌, ◌==◌, length, map, get_or, Bool, true, false, None}
use Rattle.std.proofs.Common.{Some, is_none, unwrap_or, refl, sym, subst, ◌∙◌, ap, arith, zero-add, inl, inr, [], ◌∷◌}
use Rattle.std.proofs.lemmas.Bool.{cases_lt}
use Rattle.std.proofs.lemmas.Bool.Decides.{nat_tests}
use Rattle.std.proofs.lemmas.Grind.{common_steps, same_number_lists}
use Rattle.std.proofs.lemmas.List.{get_or-map, length-map}
use Rattle.std.proofs.lemmas.List.Elements.{All-get_or, All-from_get_or}
use Rattle.std.proofs.lemmas.List.FromFn.{get_or-map-range_with_len, length-map-range_with_len}
use Rattle.std.specs.List.{range_with_len}
use Rattle.std.specs.Ordering.{nat_cmp}
use Rattle.std.specs.Char.{to_ascii_lowercase}
use Rattle.std.specs.Str.{str_to_ascii_lowercase}
use Rattle.hex_core.specs.declared.digit.CheckCase.{CheckCase}
use Rattle.hex_core.specs.declared.digit.CheckCase.TheVariants as policy
use Rattle.hex_core.specs.Digit.{value, digit, strict}
use Rattle.hex_core.specs.Text.{Spells, text}
use Rattle.hex_core.specs.Search.{first_invalid}
use Rattle.hex_core.specs.Laws.{AcceptsWhatSpells, AreBytes, DecodingInvertsEncoding, EitherCaseIsLowercased}
use Rattle.hex_core.specs.Laws.{EncodingInvertsStrictDecoding, EncodingLowercases, SpellsBytes, StrictAcceptsTexts}
use Rattle.hex_core.specs.Laws.{TextsCompareAsLists}
use Rattle.hex_core.proofs.ByteLemmas.{value_small}
use Rattle.hex_core.proofs.PositionLemmas.{position_none}
use Rattle.hex_core.proofs.SearchLemmas.{has_value, lacks}
use Rattle.hex_core.proofs.TableLemmas.{value_at}
use Rattle.hex_core.proofs.TextLemmas.{digits-at, length-text}

-- a digit is read as its number, under the policy of its case and under either
value-digit : (upper : Bool) (n : ℕ) → n < 16 → (value (strict upper) (digit upper n) ≡ Some n) × (value policy.None (digit upper n) ≡ Some n)
value-digit true n h = (grind (arith, nat_tests), grind (arith, nat_tests))
value-digit false n h = (grind (arith, nat_tests), grind (arith, nat_tests))

digit-value : (upper : Bool) (b n : ℕ) → value (strict upper) b ≡ Some n → digit upper n ≡ b
digit-value true b n h = grind (arith, nat_tests)
digit-value false b n h = grind (arith, nat_tests)

-- a byte is what its quotient and remainder make
pub spells-bytes : SpellsBytes
spells-bytes c s bytes h = All-from_get_or (λ b. b < 256) bytes 0 (λ i lt.
    let small : get_or bytes i 0 / 16 < 16 = value_small c (get_or s (2 * i) 0) (get_or bytes i 0 / 16) (h.each i lt).high in omega arith)

-- the list that the pairs of digits of a source make
pairs : CheckCase → List ℕ → ℕ → ℕ
pairs c s i = 16 * unwrap_or (value c (get_or s (2 * i) 0)) 255 + unwrap_or (value c (get_or s (2 * i + 1) 0)) 255

pub spelled : (c : CheckCase) (s : List ℕ) → length s % 2 ≡ 0 → first_invalid c s ≡ None → (bytes : List ℕ) × Spells c s bytes
unfolding pairs
spelled c s even none =
    let n = length s / 2 in
    let bytes : List ℕ = map (pairs c s) (range_with_len 0 n) in
    let size : length bytes ≡ n = length-map-range_with_len (pairs c s) 0 n in
    let digit : (k : ℕ) → k < length s → (value c (get_or s k 0) ≡ Some (unwrap_or (value c (get_or s k 0)) 255)) × (unwrap_or (value c (get_or s k 0)) 255 < 16) =
    λ k lt. value_at c (get_or s k 0) (has_value c s k none lt) in (
      bytes,
      record {
        twice = omega (arith, size);
        each = λ i lt.
            let at : get_or bytes i 0 ≡ pairs c s i = get_or-map-range_with_len (pairs c s) 0 n i i 0 (rw size at lt) (zero-add i) in
            let h = digit (2 * i) (omega (arith, size)) in let l = digit (2 * i + 1) (omega (arith, size)) in
            record { high = h.0 ∙ ap Some (omega (arith, at, h.1, l.1)); low = l.0 ∙ ap Some (omega (arith, at, h.1, l.1)) };
      },
    )

-- what holds at both places of each pair holds at every place
by_pairs : (P : ℕ → Type 0) (n : ℕ) → ((i : ℕ) → i < n → P (2 * i) × P (2 * i + 1)) → (k : ℕ) → k < 2 * n → P k
by_pairs P n pairs k lt =
    let both = pairs (k / 2) (omega arith) in
    elim (cases_lt (k % 2) 1) [
      | inl even ↦ (let e : 2 * (k / 2) ≡ k = omega arith in subst P e both.0)
      | inr odd ↦ (let e : 2 * (k / 2) + 1 ≡ k = omega arith in subst P e both.1)
    ]

pub valid-spelled : (c : CheckCase) (s bytes : List ℕ) → Spells c s bytes → first_invalid c s ≡ None
valid-spelled c s bytes h = position_none (lacks c) s (λ k lt.
    by_pairs (λ n. lacks c (get_or s n 0) ≡ false) (length bytes) (λ i small. (ap is_none (h.each i small).high, ap is_none (h.each i small).low)) k (omega (arith, lt, h.twice)))

pub accepts_what_spells : AcceptsWhatSpells
accepts_what_spells c s = (
  λ h. spelled c s (grind (arith, nat_tests, h)) (grind (arith, nat_tests, h)),
  λ (bytes, h). let twice = h.twice in let test : (length s % 2 == 1) ≡ false = grind (arith, nat_tests) in rw (test, valid-spelled c s bytes h) refl,
)

-- the text of bytes is read as those bytes, where each digit is read as its number
text-spells : (c : CheckCase) (upper : Bool) (bytes : List ℕ) → ((n : ℕ) → n < 16 → value c (digit upper n) ≡ Some n) → AreBytes bytes
    → Spells c (text upper bytes) bytes
text-spells c upper bytes reads all = record {
  twice = length-text upper bytes;
  each = λ i lt.
      let small : get_or bytes i 0 < 256 = All-get_or (λ b. b < 256) bytes i 0 lt all in
      let at = digits-at upper bytes i lt in
      record { high = rw at.0 (reads _ (omega arith)); low = rw at.1 (reads _ (omega arith)) };
}

pub decoding-inverts : DecodingInvertsEncoding
decoding-inverts upper bytes all =
    (text-spells (strict upper) upper bytes (λ n h. (value-digit upper n h).0) all, text-spells policy.None upper bytes (λ n h. (value-digit upper n h).1) all)

pub encoding-inverts : EncodingInvertsStrictDecoding
encoding-inverts upper s bytes h =
    let size = length-text upper bytes in
    same_number_lists (text upper bytes) s (omega (arith, size, h.twice)) (λ k lt.
    by_pairs (λ n. get_or (text upper bytes) n 0 ≡ get_or s n 0) (length bytes) (λ i small.
    let at = digits-at upper bytes i small in let is = h.each i small in
    (at.0 ∙ digit-value upper _ _ is.high, at.1 ∙ digit-value upper _ _ is.low)) k (omega (arith, lt, size)))

pub strict-accepts : StrictAcceptsTexts
strict-accepts upper s = (
  λ h. let found = (accepts_what_spells (strict upper) s).0 h in (found.0, spells-bytes (strict upper) s found.0 found.1, encoding-inverts upper s found.0 found.1),
  λ (bytes, all, is). (accepts_what_spells (strict upper) s).1 (bytes, rw is at (decoding-inverts upper bytes all).0),
)

lowercased-at : (s : List ℕ) (k : ℕ) → k < length s → value policy.Lower (get_or (str_to_ascii_lowercase s) k 0) ≡ value policy.None (get_or s k 0)
lowercased-at s k lt = rw (get_or-map to_ascii_lowercase s k 0 0 lt) (grind (arith, nat_tests))

spells-along : (c d : CheckCase) (s t bytes : List ℕ) → length t ≡ length s → ((k : ℕ) → k < length s → value d (get_or t k 0) ≡ value c (get_or s k 0)) → Spells c s bytes → Spells d t bytes
spells-along c d s t bytes same read h = grind (arith, common_steps)

pub either-lowercased : EitherCaseIsLowercased
either-lowercased s bytes =
    let size : length (str_to_ascii_lowercase s) ≡ length s = length-map s to_ascii_lowercase in (
      spells-along _ _ s (str_to_ascii_lowercase s) bytes size (lowercased-at s),
      spells-along _ _ (str_to_ascii_lowercase s) s bytes (sym size) (λ k lt. sym (lowercased-at s k (rw size at lt))),
    )

pub encoding-lowercases : EncodingLowercases
encoding-lowercases s bytes h = encoding-inverts false (str_to_ascii_lowercase s) bytes ((either-lowercased s bytes).0 h)

-- ---- order

digit-order : (upper : Bool) (m n : ℕ) → nat_cmp (digit upper m) (digit upper n) ≡ nat_cmp m n
digit-order true m n = grind (arith, nat_tests)
digit-order false m n = grind (arith, nat_tests)

pub text-order : TextsCompareAsLists
text-order upper [] [] = refl
text-order upper [] (n ∷ others) = refl
text-order upper (m ∷ bytes) [] = refl
text-order upper (m ∷ bytes) (n ∷ others) =
    rw (digit-order upper (m / 16) (n / 16), digit-order upper (m % 16) (n % 16), text-order upper bytes others) (grind (arith, nat_tests))

-- ---- what laws.rt promises, where it is an equation

pub ruleset laws = (accepts_what_spells, encoding-inverts, encoding-lowercases, length-text, strict-accepts, text-order)
