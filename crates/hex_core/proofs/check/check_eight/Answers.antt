use Rattle.std.proofs.Common.{◌+◌, ◌*◌, ◌-◌, ◌/◌, ◌%◌, length, refl, arith}
use Rattle.hex_core.proofs.BlockLemmas.{both_valid, parts_tested}
use Rattle.hex_core.proofs.check.check_eight.Goals as goal

pub returns : goal.returns
returns g c =
    let case = c.args.case in let mask = g.M.Rows.mask case in let s = c.args.src.now in let at = length s - 64 in let middle = 256 + (length s - 257) / 64 % 4 * 64 in
    let front = both_valid case s 0 256 256 middle middle (c.or-front.ensures.clear mask) c.marks_at.ensures c.marks_at-2.ensures refl (omega arith) (omega arith) (omega arith) in
    parts_tested case s middle at (at + 64) (rw c.mark_mask.ensures at c.is_clear.ensures) (c.or-whole.ensures.clear mask) front c.marks_at-3.ensures (omega (arith, c.requires.least)) (omega (arith, c.requires.least, c.requires.most)) (omega (arith, c.requires.least))
