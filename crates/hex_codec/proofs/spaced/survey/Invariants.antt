-- The bytes before this place are counted and tested.
use Rattle.std.proofs.Common.{◌≡◌, ◌≤◌, ◌-◌, None, length, take}
use Rattle.std.specs.Prelude.{◌↔◌, IsTrue}
use Rattle.hex_codec.specs.Spaced.{first_invalid_spaced, unspaced}
use Rattle.hex_codec.proofs.spaced.survey.Given as goal

abbrev pub invariant-runs : goal.invariant-runs
invariant-runs l = (l.at ≤ length l.src) × (l.count ≡ length (unspaced (take l.at l.src)))
    × (IsTrue l.is_clean ↔ (first_invalid_spaced l.case (take l.at l.src) ≡ None))

abbrev pub decreases-runs : goal.decreases-runs
decreases-runs l = length l.src - l.at
