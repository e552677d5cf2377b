use Rattle.hex_core.proofs.PairLemmas.{shifted_lane}
use Rattle.hex_core.proofs.widths.LanesShift32.shift.Goals as goal

pub returns : goal.returns
returns c = shifted_lane c.args.v c.eighths.result 8 c.fits-v c.eighths.ensures.lanes c.eighths.ensures.words
