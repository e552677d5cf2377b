-- The first invalid byte of a source, and the steps of the search that finds it.
use Rattle.std.specs.Prelude.{ℕ, ◌+◌, ◌-◌, ◌*◌, ◌/◌, ◌%◌, ◌<◌, ◌≤◌, nat_lt, if◌then◌else◌, Option, Some, None, List}
use Rattle.std.specs.Prelude.{length, min, position, is_none, slice_index, IsSome}
use Rattle.std.specs.Int.{div_ceil}
use Rattle.hex_core.specs.declared.digit.CheckCase.{CheckCase}
use Rattle.hex_core.specs.Digit.{value}

-- the least index whose byte has no value under the policy, or `None` if all bytes have one
abbrev pub first_invalid : CheckCase → List ℕ → Option ℕ
first_invalid c s = position (λ b. is_none (value c b)) s

-- all bytes from index `start` up to, but not including, index `end` have a value under the policy
abbrev pub AllValid : CheckCase → List ℕ → ℕ → ℕ → Type 0
AllValid c s start end = (k : ℕ) → start ≤ k → k < end → IsSome (value c (slice_index s k))

-- the number of blocks of 64 bytes that the search may test: all whole blocks, but none in a source of at
-- most 64 bytes
abbrev pub tested_blocks : ℕ → ℕ
tested_blocks len = if nat_lt 64 len then len / 64 else 0

-- the steps of a search: `tests` of blocks, and `looks` at single bytes
pub record Steps : Type 0 where
  pub tests : ℕ
  pub looks : ℕ

-- the steps in a source of `len` bytes, up to its first invalid byte f, or up to its end if all bytes are
-- valid
abbrev pub steps_to : ℕ → Option ℕ → Steps
steps_to len (Some f) = record { tests = min (tested_blocks len) (f / 64 + 1); looks = f % 64 + 1 }
steps_to len None = record { tests = tested_blocks len; looks = len - 64 * tested_blocks len }

-- the number of tests that cover a source of `len` bytes with blocks, up to its first invalid byte f, or up
-- to its end if all bytes are valid
abbrev pub covering_to : ℕ → ℕ → Option ℕ → ℕ
covering_to block len (Some f) = min (div_ceil len block) (f / block + 1)
covering_to block len None = div_ceil len block

-- the steps in the source s, up to its first invalid byte, or up to its end if all bytes are valid
abbrev pub steps : CheckCase → List ℕ → Steps
steps c s = steps_to (length s) (first_invalid c s)
