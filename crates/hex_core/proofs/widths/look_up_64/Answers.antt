use Rattle.hex_core.specs.inside.Tables.{entry}
use Rattle.hex_core.proofs.LookupLemmas.{halves_mapped}
use Rattle.hex_core.proofs.widths.look_up_64.Goals as goal

pub returns : goal.returns
returns c = rw (c.look_up_32-front.ensures, c.look_up_32-back.ensures) (halves_mapped (entry c.args.row) c.args.at 32 c.fits-at.0 tt tt)
