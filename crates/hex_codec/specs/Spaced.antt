-- Digits with white space among them.
use Rattle.std.specs.Prelude.{ℕ, ◌/◌, ◌%◌, ◌==◌, nat_lt, Bool, not, ◌&&◌, if◌then◌else◌, List, length, filter, position}
use Rattle.std.specs.Prelude.{slice_index, is_none, Option, Some, option_map, Result}
use Rattle.std.specs.Char.{is_ascii_whitespace}
use Rattle.hex_core.specs.declared.digit.CheckCase.{CheckCase}
use Rattle.hex_core.specs.declared.error.Error.{Error}
use Rattle.hex_core.specs.declared.error.Error.TheVariants.{InvalidChar, OutputTooSmall, OddLength}
use Rattle.hex_core.specs.Calls.{Fills}
use Rattle.hex_core.specs.Digit.{value}
use Rattle.hex_core.specs.Text.{Spells}

-- whether a byte is not ASCII white space
abbrev pub is_solid : ℕ → Bool
is_solid b = not (is_ascii_whitespace b)

-- a source without its white space
abbrev pub unspaced : List ℕ → List ℕ
unspaced s = filter is_solid s

-- whether a byte is neither white space nor a digit
abbrev pub is_invalid_spaced : CheckCase → ℕ → Bool
is_invalid_spaced c b = is_solid b && is_none (value c b)

-- the index of the first such byte of a source, or `None` if there is no such byte
abbrev pub first_invalid_spaced : CheckCase → List ℕ → Option ℕ
first_invalid_spaced c s = position (is_invalid_spaced c) s

-- the error of decoding into `room` bytes, where white space is skipped: an odd number of other bytes, else too
-- little room for the half of this number, else the first byte that is neither white space nor a digit
abbrev pub spaced_refusal : CheckCase → List ℕ → ℕ → Option Error
spaced_refusal c s room =
    if length (unspaced s) % 2 == 1 then Some OddLength
    else if nat_lt room (length (unspaced s) / 2) then Some (OutputTooSmall (length (unspaced s) / 2))
    else option_map (λ i. InvalidChar i (slice_index s i)) (first_invalid_spaced c s)

-- decoding to the start of a destination, where white space is skipped: the errors are those of
-- `spaced_refusal`, and the bytes written are those that the source spells without its white space
abbrev pub DecodesSpaced : CheckCase → List ℕ → List ℕ → List ℕ → Result ℕ Error → Type 0
DecodesSpaced c s old new result = Fills (spaced_refusal c s (length old)) (Spells c (unspaced s)) old new result
