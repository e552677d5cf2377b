use Rattle.std.proofs.Common.{refl}
use Rattle.hex_core.proofs.LookupLemmas.{shuffle_ok, shuffle_repeated, over}
use Rattle.hex_core.proofs.widths.LanesShuffle64.shuffle.Goals as goal

pub swizzle : goal.swizzle
swizzle c = shuffle_ok 4 64 c.args.at c.and_splat.result c.fits-at c.and_splat.ensures refl

pub returns : goal.returns
returns c = shuffle_repeated 4 64 c.args.row (over 0 64) c.args.at c.and_splat.result c.fits-at c.and_splat.ensures refl c.fits-row.0 refl refl
