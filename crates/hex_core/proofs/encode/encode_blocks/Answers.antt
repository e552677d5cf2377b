use Rattle.std.proofs.Common.{◌≡◌, ◌+◌, ◌*◌, ◌-◌, ◌/◌, ◌∙◌, length, refl, arith}
use Rattle.hex_core.proofs.BlockLemmas.{block_inside, blocks_past}
use Rattle.hex_core.proofs.TextLemmas.{written-all, written-more}
use Rattle.hex_core.proofs.encode.encode_blocks.Goals as goal

pub turns-preserved : goal.turns-preserved
turns-preserved g c =
    let n = g.row.N in let at = c.turns.i * n in
    let inside = block_inside (length c.args.src.now) n c.turns.i (omega arith) (omega arith) in
    rw c.write.ensures (written-more at n ((c.turns.i + 1) * n) (2 * at) (omega arith) (omega arith) (omega (arith, inside)) refl c.turns.invariant)

pub returns-then-src-ne0 : goal.returns-then-src-ne0
returns-then-src-ne0 g c =
    let s = c.args.src.now in let n = g.row.N in let at = length s - n in
    let all : c.turns.i ≡ length s / n = omega arith in
    let past = blocks_past (length s) n (omega arith) in
    c.encode_at.ensures
    ∙ written-all (length s) refl (written-more at n (length s) (2 * at) (omega (arith, past)) (omega arith) (omega arith) refl (rw all at c.turns.invariant))
