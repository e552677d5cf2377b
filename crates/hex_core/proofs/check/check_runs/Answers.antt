use Rattle.std.proofs.Common.{◌≡◌, ◌+◌, ◌*◌, ◌-◌, ◌/◌, length, refl, arith}
use std.Logic.{↔_trans}
use Rattle.hex_core.proofs.BlockLemmas.{behind_valid, part_fails, parts_tested, valid_chunk}
use Rattle.hex_core.proofs.check.check_runs.Goals as goal

pub returns-then-not-is_clear : goal.returns-then-not-is_clear
returns-then-not-is_clear g c =
    let at = c.turns.i * 512 in
    part_fails c.args.case c.args.src.now at (at + 512) (omega arith) (↔_trans (rw c.mark_mask-mask.ensures at c.is_clear.ensures) c.marks_at-run.ensures) c.if-not-is_clear.true

pub returns : goal.returns
returns g c =
    let case = c.args.case in let s = c.args.src.now in let last = length s - 64 in let done = last / 512 * 512 in
    let all : c.turns.i ≡ last / 512 = omega arith in
    let middle = done + c.div_ceil.result * 64 in
    let front = ↔_trans c.marks_at-front.ensures (behind_valid case s done middle (omega arith) (rw all at c.turns.invariant)) in
    let back = ↔_trans c.marks.ensures (valid_chunk case s last 64 (length s) (omega arith) (omega arith)) in
    parts_tested case s middle last (length s) (rw c.mark_mask-mask.ensures at c.is_clear-2.ensures) (c.or-rest.ensures.clear (g.M.Rows.mask case)) front back refl (omega arith) (omega arith)
