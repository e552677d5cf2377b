use Rattle.std.proofs.lemmas.Simd.{map-map, zip2-map}
use Rattle.hex_core.proofs.ByteLemmas.{short_nibbles}
use Rattle.hex_core.proofs.rows.ShortRowsRows.values_or_16.Goals as goal

pub returns : goal.returns
returns g c =
    short_nibbles c.args.case c.args.v c.xor.result c.fits-v.1
    (simp (c.xor.ensures, c.xor_splat.ensures, c.saturating_differences-bits.ensures, c.look_up.ensures, c.saturating_sub-past.ensures, c.nibble_row.ensures, c.fold_of.ensures, map-map, zip2-map))
