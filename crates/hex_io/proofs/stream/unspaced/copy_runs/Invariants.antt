-- The runs so far are copied, and the mask is that of the bytes behind them.
use Rattle.std.proofs.Common.{◌≡◌, ◌≤◌, ◌-◌, length, map}
use Rattle.std.specs.Simd.Lanes.{chunk, mask_l}
use Rattle.std.specs.Prelude.{nat_le}
use Rattle.hex_io.specs.inside.{HasCopied}
use Rattle.hex_io.proofs.stream.unspaced.copy_runs.Given as goal

abbrev pub decreases-runs : goal.decreases-runs
decreases-runs l = l.end - l.at

abbrev pub invariant-runs : goal.invariant-runs
invariant-runs l = (l.fn.start ≤ l.at) × (l.at ≤ l.end) × (length l.block ≡ length l.initial.block) × HasCopied l.src l.at l.block l.count
    × (l.marks ≡ mask_l (map (λ b. nat_le b 32) (chunk l.at (l.end - l.at) l.src)))
