use Rattle.std.proofs.Common.{map, refl, ap}
use Rattle.hex_core.specs.inside.Tables.{entry}
use Rattle.hex_core.proofs.LookupLemmas.{front_picked}
use Rattle.hex_core.proofs.widths.LanesShuffle8.shuffle.Goals as goal

pub returns : goal.returns
returns c = rw c.shuffle.ensures (ap (map (entry c.args.row)) (front_picked 8 c.args.at c.fits-at.0 refl))
