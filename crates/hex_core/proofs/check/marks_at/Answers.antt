use Rattle.std.proofs.Common.{ℕ, ◌+◌, ◌*◌, refl, arith}
use Rattle.std.proofs.lemmas.List.{get_or-replicate}
use std.Logic.{↔_trans}
use Rattle.hex_core.proofs.BlockLemmas.{both_valid, valid_chunk}
use Rattle.hex_core.proofs.check.marks_at.Goals as goal

pub turns-init : goal.turns-init
turns-init g c = (λ low k least lt. absurd (omega arith), λ valid i h. rw (get_or-replicate {A = ℕ} 64 i 0 0 h) refl)

pub turns-preserved : goal.turns-preserved
turns-preserved g c =
    let start = c.args.at in let at = start + c.turns.i * 64 in
    let block = ↔_trans c.marks.ensures (valid_chunk c.args.case c.args.src.now at 64 (at + 64) refl (omega arith)) in
    both_valid c.args.case c.args.src.now start at at (at + 64) (start + (c.turns.i + 1) * 64) (c.or-joined.ensures.clear (g.M.Rows.mask c.args.case)) c.turns.invariant block
    (omega arith) (omega arith) (omega arith) (omega arith)
