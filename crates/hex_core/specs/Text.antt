-- The text of a list of bytes, and the list that a text spells.
use Rattle.std.specs.Prelude.{◌≡◌, ℕ, ◌+◌, ◌*◌, ◌/◌, ◌%◌, Bool, false, true, List, [], ◌∷◌, ◌++◌, length, drop}
use Rattle.std.specs.Prelude.{slice_index, EachIndex, Some}
use Rattle.std.specs.List.{flat_map}
use Rattle.hex_core.specs.declared.digit.CheckCase.{CheckCase}
use Rattle.hex_core.specs.Digit.{value, digit}

-- lowercase, as a value that says in which letter case digits are written
abbrev pub lowercase : Bool
lowercase = false

-- uppercase, as such a value
abbrev pub uppercase : Bool
uppercase = true

-- the two digits of a byte, the high one first
abbrev pub digits : Bool → ℕ → List ℕ
digits upper byte = digit upper (byte / 16) ∷ digit upper (byte % 16) ∷ []

-- the text of a list: the two digits of each byte, in order
abbrev pub text : Bool → List ℕ → List ℕ
text upper bytes = flat_map (digits upper) bytes

-- the digits at the indices 2 * i and 2 * i + 1 spell byte i of the list: their values are the quotient and
-- the remainder of that byte by 16
pub record SpellsAt (c : CheckCase) (s bytes : List ℕ) (i : ℕ) : Type 0 where
  pub high : value c (slice_index s (2 * i)) ≡ Some (slice_index bytes i / 16)
  pub low : value c (slice_index s (2 * i + 1)) ≡ Some (slice_index bytes i % 16)

-- the source s spells the list `bytes`: it has two digits for each byte of the list, and they spell that byte
pub record Spells (c : CheckCase) (s bytes : List ℕ) : Type 0 where
  pub twice : length s ≡ 2 * length bytes
  pub each : EachIndex bytes (SpellsAt c s bytes)

-- a buffer with the old bytes whose start was replaced by the list: the list, then the old bytes after its
-- length
abbrev pub with_front : List ℕ → List ℕ → List ℕ
with_front old bytes = bytes ++ drop (length bytes) old
