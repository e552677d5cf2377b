use Rattle.std.proofs.Common.{◌+◌, ◌*◌, ◌-◌, length, refl, arith}
use std.Logic.{↔_trans}
use Rattle.hex_core.proofs.BlockLemmas.{both_valid, parts_tested, valid_chunk}
use Rattle.hex_core.proofs.check.check_four.Goals.{then-src, else-src}
use Rattle.hex_core.proofs.check.check_four.Goals as goal

pub returns : goal.returns
returns g c =
    let case = c.args.case in let s = c.args.src.now in let n = g.row.N in let at = length s - n in let from = length s - 2 * n in
    let mask = g.M.Rows.mask case in
    let first = ↔_trans c.marks-first.ensures (valid_chunk case s 0 n n (omega arith) (omega arith)) in
    let second = ↔_trans c.marks-second.ensures (valid_chunk case s n n (n + n) (omega arith) (omega arith)) in
    let last = ↔_trans c.marks-last.ensures (valid_chunk case s at n (length s) (omega arith) (omega arith)) in
    let pair = both_valid case s 0 n n (n + n) (n + n) (c.or-front.ensures.clear mask) first second refl (omega arith) (omega arith) (omega arith) in
    elim c.if-src.branch [
      | then-src w ↦
          let third = ↔_trans w.marks.ensures (valid_chunk case s from n at (omega arith) (omega arith)) in
          let trio = both_valid case s 0 (n + n) from at at (w.or-front-then-src.ensures.clear mask) pair third refl (omega arith) (omega arith) (omega (arith, w.if-src)) in
          parts_tested case s at at (length s) (rw c.mark_mask.ensures at c.is_clear.ensures) (rw w.front-is at (c.or.ensures.clear mask)) trio last refl (omega arith) (omega arith)
      | else-src w ↦
          parts_tested case s (n + n) at (length s) (rw c.mark_mask.ensures at c.is_clear.ensures) (rw w.front-is at (c.or.ensures.clear mask)) pair last refl (omega (arith, w.if-src)) (omega arith)
    ]
