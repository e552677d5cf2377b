use Rattle.std.proofs.Common.{◌-◌, length, refl, arith}
use std.Logic.{↔_trans}
use Rattle.hex_core.proofs.BlockLemmas.{parts_tested, valid_chunk}
use Rattle.hex_core.proofs.check.check_two.Goals as goal

pub returns : goal.returns
returns g c =
    let case = c.args.case in let s = c.args.src.now in let n = g.row.N in let at = length s - n in
    let front = ↔_trans c.marks-front.ensures (valid_chunk case s 0 n n (omega arith) (omega arith)) in
    let back = ↔_trans c.marks-back.ensures (valid_chunk case s at n (length s) (omega arith) (omega arith)) in
    parts_tested case s n at (length s) (rw c.mark_mask.ensures at c.is_clear.ensures) (c.or.ensures.clear (g.M.Rows.mask case)) front back refl (omega arith) (omega arith)
