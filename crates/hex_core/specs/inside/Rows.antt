-- The rows of the plan `plain`, and what its maps make of a byte.
use Rattle.std.specs.Prelude.{ℕ, ◌+◌, ◌-◌, bit_xor, List, [], ◌∷◌, if◌then◌else◌, map, nat_lt, option_map, unwrap_or}
use Rattle.std.specs.List.{range_with_len}
use Rattle.hex_core.specs.declared.digit.CheckCase.{CheckCase}
use Rattle.hex_core.specs.declared.digit.CheckCase.TheVariants as policy
use Rattle.hex_core.specs.inside.Arithmetic.{fold_of, wrapping_sub}
use Rattle.hex_core.specs.inside.Tables.{entry, long_entry}
use Rattle.hex_core.specs.Digit.{value}

-- the bits that a mark is made of
abbrev pub mark_mask : CheckCase → ℕ
mark_mask policy.None = 0xa0
mark_mask policy.Lower = 0xa0
mark_mask policy.Upper = 0xa1

-- what marks are made with, by the low four bits of a byte plus 57
abbrev pub mark_row : CheckCase → List ℕ
mark_row policy.None = 167 ∷ 168 ∷ 169 ∷ 0 ∷ 0 ∷ 0 ∷ 0 ∷ 0 ∷ 0 ∷ 144 ∷ 161 ∷ 162 ∷ 163 ∷ 164 ∷ 165 ∷ 166 ∷ []
mark_row policy.Lower = 167 ∷ 168 ∷ 169 ∷ 0 ∷ 0 ∷ 0 ∷ 0 ∷ 0 ∷ 0 ∷ 144 ∷ 145 ∷ 146 ∷ 147 ∷ 148 ∷ 149 ∷ 150 ∷ []
mark_row policy.Upper = 167 ∷ 169 ∷ 169 ∷ 0 ∷ 0 ∷ 0 ∷ 0 ∷ 0 ∷ 0 ∷ 145 ∷ 161 ∷ 163 ∷ 163 ∷ 165 ∷ 165 ∷ 167 ∷ []

-- a number that has a bit of the mask exactly if the byte has no value. 199 is -57 modulo 256
abbrev pub mark : CheckCase → ℕ → ℕ
mark c b = bit_xor (wrapping_sub b 199) (wrapping_sub (entry (mark_row c) (wrapping_sub b 199)) b)

-- the numbers from which the distance of a byte past the digit 7 is subtracted. They are indexed by this distance,
-- modulo 16. The difference has the bits in which the byte, after `fold_of`, differs from its value
abbrev pub nibble_row : CheckCase → List ℕ
nibble_row policy.None = 16 ∷ 17 ∷ 18 ∷ 0 ∷ 0 ∷ 0 ∷ 0 ∷ 0 ∷ 0 ∷ 0 ∷ 117 ∷ 116 ∷ 123 ∷ 118 ∷ 121 ∷ 120 ∷ []
nibble_row policy.Lower = 48 ∷ 49 ∷ 50 ∷ 0 ∷ 0 ∷ 0 ∷ 0 ∷ 0 ∷ 0 ∷ 0 ∷ 149 ∷ 148 ∷ 155 ∷ 150 ∷ 153 ∷ 152 ∷ []
nibble_row policy.Upper = 48 ∷ 49 ∷ 50 ∷ 0 ∷ 0 ∷ 0 ∷ 0 ∷ 0 ∷ 0 ∷ 0 ∷ 85 ∷ 84 ∷ 91 ∷ 86 ∷ 89 ∷ 88 ∷ []

-- the value of a byte, or at least 16 if it has none
abbrev pub short_nibble : CheckCase → ℕ → ℕ
short_nibble c b = bit_xor (bit_xor b (fold_of c)) (entry (nibble_row c) (b - 55) - (b - 55))

-- the one byte with these low six bits that may be a digit
abbrev pub digit_byte : ℕ → ℕ
digit_byte i = if nat_lt i 48 then i + 64 else i

-- by the low six bits of a byte, the bits in which the digit with these bits differs from its value. If there is no
-- such digit, it is a number that differs from each byte with these bits in bit 5, so the result is at least 16
unfoldable pub long_row : CheckCase → List ℕ
long_row c = map (λ i. unwrap_or (option_map (bit_xor (digit_byte i)) (value c (digit_byte i))) (bit_xor i 32)) (range_with_len 0 64)

-- the value of each digit, by the low six bits of the digit
unfoldable pub value_row : List ℕ
value_row = map (λ i. unwrap_or (value policy.None (digit_byte i)) 0) (range_with_len 0 64)

-- the value of a byte, or at least 16 if it has none
abbrev pub long_nibble : CheckCase → ℕ → ℕ
long_nibble c b = bit_xor b (long_entry (long_row c) b)
