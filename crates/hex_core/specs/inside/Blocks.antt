-- The sizes of blocks, and what the functions that work block by block have written.
use Rattle.std.specs.Prelude.{◌≡◌, ◌↔◌, ℕ, ◌+◌, ◌*◌, ◌<◌, ◌≤◌, Bool, IsTrue, List, length, slice_index}
use Rattle.std.specs.Bool.{OnFalse, OnTrue}
use Rattle.hex_core.specs.declared.digit.CheckCase.{CheckCase}
use Rattle.hex_core.specs.Digit.{value}
use Rattle.hex_core.specs.Lanes.{IsNibble}
use Rattle.hex_core.specs.Search.{AllValid}
use Rattle.hex_core.specs.Text.{SpellsAt}

-- the n lanes have the values of the n bytes from index `at` of the source on, or at least 16 for an invalid
-- byte
pub record NibblesFrom (c : CheckCase) (s : List ℕ) (at n : ℕ) (lanes : List ℕ) : Type 0 where
  pub long : length lanes ≡ n
  pub each : (k : ℕ) → k < n → IsNibble (value c (slice_index s (at + k))) (slice_index lanes k)

-- the bytes from index `start` up to, but not including, `end` were decoded, and the others are unchanged
pub record DecodesRange (c : CheckCase) (s old new : List ℕ) (start end : ℕ) : Type 0 where
  pub decoded : (k : ℕ) → start ≤ k → k < end → SpellsAt c s new k
  pub before : (k : ℕ) → k < start → slice_index new k ≡ slice_index old k
  pub behind : (k : ℕ) → end ≤ k → slice_index new k ≡ slice_index old k

-- a block has at least one byte, and the source has at least one block
abbrev pub HasBlock : ℕ → List ℕ → Type 0
HasBlock n s = (1 ≤ n) × (n ≤ length s)

-- the first n and the last n bytes together are the whole source
abbrev pub EndsCover : ℕ → List ℕ → Type 0
EndsCover n s = (n ≤ length s) × (length s ≤ 2 * n)

-- n digits spell `half` bytes, and the source has two digits for each byte of the destination
abbrev pub Halves : ℕ → ℕ → List ℕ → List ℕ → Type 0
Halves n half s dst = (n ≡ 2 * half) × (length s ≡ 2 * length dst)

-- the source has two digits for each byte of the destination, which has `size` bytes from index `at` on
abbrev pub HasRoom : ℕ → ℕ → List ℕ → List ℕ → Type 0
HasRoom at size s dst = (length s ≡ 2 * length dst) × (at + size ≤ length dst)

-- if `done` is true, the digits of the `size` bytes from index `at` on are valid, and these bytes were
-- decoded. If it is false, one of the digits is invalid, and nothing was written
abbrev pub DecodesAt : CheckCase → List ℕ → List ℕ → List ℕ → ℕ → ℕ → Bool → Type 0
DecodesAt c s old new at size done =
    (IsTrue done ↔ AllValid c s (2 * at) (2 * at + 2 * size))
    × OnTrue done (DecodesRange c s old new at (at + size)) × OnFalse done (new ≡ old)
