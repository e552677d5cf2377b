-- How a source is read: as digits alone, or as digits with white space among them, which is skipped.
use Rattle.std.specs.Prelude.{◌≡◌, ℕ, Bool, true, false, not, ◌&&◌, ◌||◌, if◌then◌else◌, List, ◌++◌, position}
use Rattle.std.specs.Prelude.{slice_index, is_none, Option, None, option_map}
use Rattle.hex_core.specs.declared.digit.CheckCase.{CheckCase}
use Rattle.hex_core.specs.declared.error.Error.{Error}
use Rattle.hex_core.specs.declared.error.Error.TheVariants.{InvalidChar}
use Rattle.hex_core.specs.Digit.{value}
use Rattle.hex_core.specs.Search.{first_invalid}
use Rattle.hex_core.specs.Text.{Spells}
use Rattle.hex_codec.specs.Spaced.{is_solid, unspaced}
use Rattle.hex_io.specs.declared.stream.decoder.Reading.{Reading}

-- digits alone, under the policy c
abbrev pub plain : CheckCase → Reading
plain c = record { case = c; skips = false }

-- digits under the policy c, with ASCII white space among them that is skipped
abbrev pub spaced : CheckCase → Reading
spaced c = record { case = c; skips = true }

-- the bytes of a source that should be digits
abbrev pub digits_in : Reading → List ℕ → List ℕ
digits_in r s = if r.skips then unspaced s else s

-- whether a byte should be a digit and is not
abbrev pub is_invalid_read : Reading → ℕ → Bool
is_invalid_read r b = (not r.skips || is_solid b) && is_none (value r.case b)

-- the index of the first byte of a source that should be a digit and is not, or `None` if there is no such
-- byte
abbrev pub first_invalid_read : Reading → List ℕ → Option ℕ
first_invalid_read r s = position (is_invalid_read r) s

-- the error for that byte, with its index and the byte
abbrev pub invalid_read_of : Reading → List ℕ → Option Error
invalid_read_of r s = option_map (λ i. InvalidChar i (slice_index s i)) (first_invalid_read r s)

-- all digits are valid, and they spell the list, except for the digits at their end that wait
pub record SpellsBut (c : CheckCase) (digits bytes waiting : List ℕ) : Type 0 where
  pub valid : first_invalid c digits ≡ None
  pub pairs : List ℕ
  pub parts : digits ≡ pairs ++ waiting
  pub spelled : Spells c pairs bytes
