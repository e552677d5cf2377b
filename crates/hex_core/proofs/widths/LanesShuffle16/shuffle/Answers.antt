use Rattle.std.proofs.Common.{get_or, refl, ap, arith}
use Rattle.hex_core.proofs.LookupLemmas.{shuffle_is, shuffle_ok}
use Rattle.hex_core.proofs.widths.LanesShuffle16.shuffle.Goals as goal

pub swizzle : goal.swizzle
swizzle c = shuffle_ok 1 16 c.args.at c.and_splat.result c.fits-at c.and_splat.ensures refl

pub returns : goal.returns
returns c = shuffle_is 1 16 c.args.row c.args.row c.args.at c.and_splat.result c.fits-at c.and_splat.ensures refl (λ i h. ap (λ k. get_or c.args.row k 0) (omega arith))
