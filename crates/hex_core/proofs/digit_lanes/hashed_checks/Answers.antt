use Rattle.std.proofs.Common.{arith}
use Rattle.hex_core.proofs.ByteLemmas.{checks_are, checks_right}
use Rattle.hex_core.proofs.LaneLemmas.{lane_below}
use Rattle.hex_core.proofs.digit_lanes.hashed_checks.Goals as goal

pub returns : goal.returns
returns g c =
    checks_right c.args.case c.args.v c.hashes.result (lane_below c.args.v c.fits-v.1) (omega (arith, c.fits-v.0)) c.hashes.ensures
    (rw (c.sign_flipped-2.ensures, c.saturating_differences.ensures, c.sign_flipped.ensures, c.shuffle-offsets.ensures, c.check_row.ensures)
    (checks_are c.args.case c.args.v c.hashes.result))
