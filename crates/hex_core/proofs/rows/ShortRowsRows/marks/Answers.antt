use Rattle.std.proofs.lemmas.Simd.{map-map, zip2-map}
use Rattle.hex_core.proofs.ByteLemmas.{short_marks}
use Rattle.hex_core.proofs.LaneLemmas.{zipped_self}
use Rattle.hex_core.proofs.rows.ShortRowsRows.marks.Goals as goal

pub returns : goal.returns
returns g c =
    short_marks c.args.case c.args.v c.xor.result g.row.N c.fits-v
    (simp (c.xor.ensures, c.differences.ensures, c.look_up.ensures, c.wrapping_sub-past.ensures, c.mark_row.ensures, map-map, zipped_self, zip2-map))
