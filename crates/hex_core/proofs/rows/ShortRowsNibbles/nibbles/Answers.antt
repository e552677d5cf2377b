use Rattle.std.proofs.lemmas.Simd.{map-map, zip2-map}
use Rattle.hex_core.proofs.ByteLemmas.{valid_values}
use Rattle.hex_core.proofs.rows.ShortRowsNibbles.nibbles.Goals as goal

pub returns : goal.returns
returns g c =
    valid_values c.args._case c.args.v c.min.result c.fits-v.1 (simp (c.min.ensures, c.wrapping_sub.ensures, c.and_splat-common.ensures, map-map, zip2-map))
