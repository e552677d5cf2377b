-- The errors of functions that make a text in new memory or append to one.
use Rattle.std.specs.Prelude.{ℕ, ◌+◌, ◌^◌, ◌<◌, ◌≤◌}
use Rattle.hex_core.specs.declared.error.Error.{Error}
use Rattle.hex_core.specs.declared.error.Error.TheVariants.{Overflow, OutOfMemory}

-- an error of adding `added` bytes to `had` bytes. `Overflow` means that the whole length exceeds `usize`.
-- `OutOfMemory` is possible only if the length fits `usize` and there are bytes to add. There is no other
-- error
abbrev pub GrowthFailure : ℕ → ℕ → Error → Type 0
GrowthFailure had added Overflow = 2 ^ 64 ≤ had + added
GrowthFailure had added OutOfMemory = (0 < added) × (had + added < 2 ^ 64)
GrowthFailure had added _ = ⊥
