use Rattle.hex_core.specs.inside.Tables.{entry}
use Rattle.hex_core.proofs.LookupLemmas.{halves_mapped}
use Rattle.hex_core.proofs.widths.look_up_32.Goals as goal

pub returns : goal.returns
returns c = rw (c.shuffle-front.ensures, c.shuffle-back.ensures) (halves_mapped (entry c.args.row) c.args.at 16 c.fits-at.0 tt tt)
