use Rattle.std.proofs.Common.{arith}
use Rattle.hex_core.specs.inside.Arithmetic.{wrapping_sub}
use Rattle.hex_core.proofs.ByteLemmas.{values_right}
use Rattle.hex_core.proofs.LaneLemmas.{lane_below, zipped_map}
use Rattle.hex_core.proofs.digit_lanes.hashed_values.Goals as goal

pub returns : goal.returns
returns g c case =
    values_right case c.args.v c.hashes.result (lane_below c.args.v c.fits-v.1) (omega (arith, c.fits-v.0)) c.hashes.ensures
    (rw c.shuffle-offsets.ensures (zipped_map wrapping_sub _ c.args.v c.hashes.result))
