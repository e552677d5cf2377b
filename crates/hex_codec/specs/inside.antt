-- What private functions do with lines of digits. No public contract depends on these definitions.
use Rattle.std.specs.Prelude.{◌≡◌, ◌+◌, ◌*◌, ◌%◌, ◌<◌, ◌≤◌, ℕ, List, [], length, take, drop, None}
use Rattle.hex_core.specs.declared.digit.CheckCase.{CheckCase}
use Rattle.hex_core.specs.Search.{first_invalid}
use Rattle.hex_core.specs.Text.{Spells}
use Rattle.hex_codec.specs.Spaced.{unspaced}

-- a source starts with `count` lines, each of which has `len` valid digits, an even number, and then `gap` bytes of
-- white space
pub record AreLines (c : CheckCase) (s : List ℕ) (len gap count : ℕ) : Type 0 where
  pub some : 0 < count → 0 < len
  pub even : len % 2 ≡ 0
  pub short : len + gap ≤ length s
  pub inside : count * (len + gap) ≤ length s
  pub digits : (i : ℕ) → i < count → first_invalid c (take len (drop (i * (len + gap)) s)) ≡ None
  pub space : (i : ℕ) → i < count → unspaced (take gap (drop (i * (len + gap) + len) s)) ≡ []

-- the digits among the first `end` bytes of a source were decoded to the start of a destination, where they are
-- `count` bytes
pub record DecodesLines (c : CheckCase) (s old new : List ℕ) (end count : ℕ) : Type 0 where
  pub inside : end ≤ length s
  pub same : length new ≡ length old
  pub room : count ≤ length new
  pub spelled : Spells c (unspaced (take end s)) (take count new)
