-- The tables that look-ups use, and the look-up in a row.
use Rattle.std.specs.Prelude.{ℕ, ◌%◌, nat_le, if◌then◌else◌, Bool, List, map, slice_index, unwrap_or}
use Rattle.std.specs.List.{range_with_len}
use Rattle.hex_core.specs.declared.digit.CheckCase.{CheckCase}
use Rattle.hex_core.specs.Digit.{value}
use Rattle.hex_core.specs.Text.{text}

-- the value of each byte under a policy, in the order of the bytes, or 255 for a byte without a value
unfoldable pub value_table : CheckCase → List ℕ
value_table c = map (λ b. unwrap_or (value c b) 255) (range_with_len 0 256)

-- the two digits of each byte, in the order of the bytes
unfoldable pub digits_table : Bool → List ℕ
digits_table upper = text upper (range_with_len 0 256)

-- the entry of a row at the low four bits of a byte, or 0 if the byte is at least 128
abbrev pub entry : List ℕ → ℕ → ℕ
entry row at = if nat_le 128 at then 0 else slice_index row (at % 16)

-- the entry of a row of 64 at the low six bits of a byte
abbrev pub long_entry : List ℕ → ℕ → ℕ
long_entry row at = slice_index row (at % 64)
