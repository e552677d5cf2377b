use Rattle.hex_core.proofs.PairLemmas.{in_turn}
use Rattle.hex_core.proofs.widths.LanesUnpack3264.unpack.Goals as goal

pub returns : goal.returns
returns c = in_turn 32 c.args.first c.args.second c.fits-first.0 c.fits-second.0
