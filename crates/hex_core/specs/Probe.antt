-- The state of a probe, which is a source that counts how it is read, and what its functions change in it.
use Rattle.std.specs.Prelude.{◌≡◌, ℕ, ◌+◌, List, length, Option}
use Rattle.hex_core.specs.declared.digit.CheckCase.{CheckCase}
use Rattle.hex_core.specs.Search.{AllValid, Steps, covering_to, first_invalid, steps}

-- the state of a probe. `block` is the number of bytes in its widest test. `looks` counts the single bytes
-- that were read so far, and `tests` counts the tests so far
pub record ProbeState : Type 0 where
  pub source : List ℕ
  pub policy : CheckCase
  pub block : ℕ
  pub looks : ℕ
  pub tests : ℕ

-- the state of a new probe
abbrev pub fresh_probe : List ℕ → CheckCase → ℕ → ProbeState
fresh_probe s c block = record { source = s; policy = c; block = block; looks = 0; tests = 0 }

-- the source, the policy and the block are unchanged
abbrev pub SameSource : ProbeState → ProbeState → Type 0
SameSource old new = (new.source ≡ old.source) × (new.policy ≡ old.policy) × (new.block ≡ old.block)

-- the counts rose by these numbers of looks and tests, and nothing else changed
abbrev pub Adds : ℕ → ℕ → ProbeState → ProbeState → Type 0
Adds looks tests old new = (new.looks ≡ old.looks + looks) × (new.tests ≡ old.tests + tests) × SameSource old new

-- all bytes from index `start` up to, but not including, index `end` of the probe's source are valid
abbrev pub ValidIn : ProbeState → ℕ → ℕ → Type 0
ValidIn p start end = AllValid p.policy p.source start end

-- the index of the first invalid byte of the probe's source
abbrev pub invalid_in : ProbeState → Option ℕ
invalid_in p = first_invalid p.policy p.source

-- the steps in which `locate` finds it, or finds that there is none
abbrev pub steps_in : ProbeState → Steps
steps_in p = steps p.policy p.source

-- the number of tests in which `covered` reaches it, or covers the source
abbrev pub covering_in : ProbeState → ℕ
covering_in p = covering_to p.block (length p.source) (invalid_in p)
