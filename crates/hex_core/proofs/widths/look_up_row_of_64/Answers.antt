use Rattle.hex_core.proofs.LookupLemmas.{look_up_is, look_up_ok}
use Rattle.hex_core.proofs.widths.look_up_row_of_64.Goals as goal

pub swizzle : goal.swizzle
swizzle c = look_up_ok c.args.at c.and_splat.result c.fits-at c.and_splat.ensures

pub returns : goal.returns
returns c = look_up_is c.args.row c.args.at c.and_splat.result c.fits-at c.and_splat.ensures
