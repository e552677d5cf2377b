-- The digits before this place are decoded.
use Rattle.std.proofs.Common.{◌-◌, length}
use Rattle.hex_codec.specs.inside.{DecodesLines}
use Rattle.hex_codec.proofs.spaced.decode_runs.Given as goal

abbrev pub invariant-runs : goal.invariant-runs
invariant-runs l = DecodesLines l.case l.src l.fn.dst l.dst l.at l.done

abbrev pub decreases-runs : goal.decreases-runs
decreases-runs l = length l.src - l.at
