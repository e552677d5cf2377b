use Rattle.hex_core.proofs.LaneLemmas.{no_bit_set}
use Rattle.hex_core.proofs.vector.is_zero.Goals as goal

pub returns : goal.returns
returns g c = no_bit_set c.args.v
