use Rattle.hex_core.proofs.ByteLemmas.{long_marks, long_nibbles}
use Rattle.hex_core.proofs.LaneLemmas.{self_zipped}
use Rattle.hex_core.proofs.rows.long_nibbles.Goals as goal

pub returns-clause-nibbles : goal.returns-clause-nibbles
returns-clause-nibbles g c = long_nibbles c.args.case c.args.v c.xor.result c.fits-v.1 (simp (c.xor.ensures, c.look_up_long.ensures, c.long_row.ensures, self_zipped))

pub returns-clause-marks : goal.returns-clause-marks
returns-clause-marks g c = long_marks c.args.case c.args.v c.xor.result g.row.N c.fits-v (simp (c.xor.ensures, c.look_up_long.ensures, c.long_row.ensures, self_zipped))
