-- The arithmetic of vectors, on one byte, on a pair of bytes or on a list.
use Rattle.std.specs.Prelude.{◌≡◌, ℕ, ◌+◌, ◌-◌, ◌*◌, ◌/◌, ◌%◌, ◌<◌, min, bit_and, bit_or, List, [], ◌∷◌, EachIndex, slice_index}
use Rattle.hex_core.specs.declared.digit.CheckCase.{CheckCase}
use Rattle.hex_core.specs.declared.digit.CheckCase.TheVariants as policy

-- each lane is 0
abbrev pub AreZero : List ℕ → Type 0
AreZero lanes = EachIndex lanes (λ i. slice_index lanes i ≡ 0)

-- no lane has a bit of the mask
abbrev pub AreClear : ℕ → List ℕ → Type 0
AreClear mask lanes = EachIndex lanes (λ i. bit_and (slice_index lanes i) mask ≡ 0)

-- each lane is below 128, so no lane has its sign bit
abbrev pub AreUnsigned : List ℕ → Type 0
AreUnsigned lanes = EachIndex lanes (λ i. slice_index lanes i < 128)

-- the difference of two bytes, modulo 256
abbrev pub wrapping_sub : ℕ → ℕ → ℕ
wrapping_sub a b = (a + (256 - b)) % 256

-- the sum of two bytes, but at most 255
abbrev pub saturating_add : ℕ → ℕ → ℕ
saturating_add a b = min (a + b) 255

-- the bit that makes a letter lowercase if the policy accepts both cases, otherwise 0
abbrev pub fold_of : CheckCase → ℕ
fold_of policy.None = 0x20
fold_of policy.Lower = 0
fold_of policy.Upper = 0

-- the first letter that the policy accepts, after the letters were made lowercase if it accepts both cases
abbrev pub first_letter : CheckCase → ℕ
first_letter policy.None = 97
first_letter policy.Lower = 97
first_letter policy.Upper = 65

-- how far a byte is past the first letter that the policy accepts, modulo 256
abbrev pub letter : CheckCase → ℕ → ℕ
letter c b = wrapping_sub (bit_or b (fold_of c)) (first_letter c)

-- the value of a byte that has one. It is the same under each policy that accepts the byte
abbrev pub valid_nibble : ℕ → ℕ
valid_nibble b = min (bit_and b 0x4f) (wrapping_sub (bit_and b 0x4f) 55)

-- the byte of a word of two nibbles. 4097 is 2 ^ 12 + 1, so bits 8 to 15 of the product are 16 times the low
-- byte plus the high byte of the word
abbrev pub pair_byte : ℕ → ℕ
pair_byte w = w * 4097 % 65536 / 256

-- the bytes of a list of nibbles, one for each pair, whose first nibble is the high half
abbrev pub packed : List ℕ → List ℕ
packed [] = []
packed (a ∷ []) = []
packed (a ∷ b ∷ rest) = (16 * a + b) ∷ packed rest

-- two lists taken in turn, beginning with the first
abbrev pub interleaved : List ℕ → List ℕ → List ℕ
interleaved [] ys = []
interleaved (x ∷ xs) [] = []
interleaved (x ∷ xs) (y ∷ ys) = x ∷ y ∷ interleaved xs ys
