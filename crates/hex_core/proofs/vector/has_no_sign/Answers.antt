use Rattle.hex_core.proofs.LaneLemmas.{no_sign_set}
use Rattle.hex_core.proofs.vector.has_no_sign.Goals as goal

pub returns : goal.returns
returns g c = no_sign_set c.args.v g.row.N c.fits-v.0 c.requires
