use Rattle.hex_core.proofs.LaneLemmas.{sums}
use Rattle.hex_core.proofs.vector.saturating_add.Goals as goal

pub returns : goal.returns
returns g c = sums c.args.v c.args.by g.row.N c.fits-v c.ranges.by.fits
