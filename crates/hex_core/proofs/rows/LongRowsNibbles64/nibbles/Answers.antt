use Rattle.hex_core.proofs.ByteLemmas.{long_values}
use Rattle.hex_core.proofs.rows.LongRowsNibbles64.nibbles.Goals as goal

pub returns : goal.returns
returns c = long_values c.args._case c.args.v c.look_up_long.result c.fits-v.1 (rw c.value_row.ensures at c.look_up_long.ensures)
