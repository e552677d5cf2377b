use Rattle.std.proofs.Common.{None, ◌≡◌, ◌+◌, ◌*◌, ◌-◌, ◌/◌, inl, inr, length, arith}
use Rattle.std.proofs.lemmas.Bool.{OnFalse_at, OnTrue_at, cases_Bool}
use Rattle.hex_core.specs.inside.Blocks.{DecodesRange}
use Rattle.hex_core.specs.Search.{first_invalid}
use Rattle.hex_core.proofs.BlockLemmas.{block_inside, blocks_past, blocks_within, valid_range}
use Rattle.hex_core.proofs.OwnedLemmas.{BlocksDone, all_done, blocks_stored, one_more}
use Rattle.hex_core.proofs.backend.Backend.decode_each_block.Goals as goal

pub turns-preserved : goal.turns-preserved
turns-preserved g c =
    let at = c.turns.i * g.row.SIZE in
    let range = OnTrue_at {P = DecodesRange c.args.case c.args.src.now c.turns.dst c.decode_at.new.dst at (at + g.row.SIZE)} c.if-not-decode_at.false c.decode_at.ensures.1 in
    one_more c.turns.invariant (c.decode_at.ensures.0.0 c.if-not-decode_at.false) range

pub returns-then-not-decode_at : goal.returns-then-not-decode_at
returns-then-not-decode_at g c =
    let case = c.args.case in let s = c.args.src.now in let size = g.row.SIZE in let at = c.turns.i * size in
    let inside = block_inside (length c.args.dst.now) size c.turns.i (omega arith) (omega arith) in
    let same : c.decode_at.new.dst ≡ c.turns.dst = OnFalse_at c.if-not-decode_at.true c.decode_at.ensures.2 in
    let bad : ¬ (first_invalid case s ≡ None) = λ none. let t = c.decode_at.ensures.0.1 (valid_range case s (2 * at) (2 * at + 2 * size) (omega (arith, inside)) none) in cc in
    rw same (bad, blocks_stored c.turns.invariant (omega arith) (omega arith) (omega arith) (omega (arith, inside)) bad (λ room valid. let t = c.decode_at.ensures.0.1 valid in cc))

pub returns : goal.returns
returns g c =
    let case = c.args.case in let s = c.args.src.now in let size = g.row.SIZE in let old = c.args.dst.now in let n = length old in let i = n / size in
    let at = i * size in let mid = c.turns.dst in let rest = length mid - at in let new = c.decode_at-2.new.dst in
    let all : c.turns.i ≡ i = omega arith in
    let blocks : BlocksDone case size i s old mid = rw all at c.turns.invariant in
    let within = blocks_within n size i (omega arith) (omega arith) in
    elim (cases_Bool c.decode_at-2.result) [
      | inl t ↦
          let range = OnTrue_at {P = DecodesRange case s mid new at (at + rest)} t c.decode_at-2.ensures.1 in
          rw t (all_done rest blocks (c.decode_at-2.ensures.0.0 t) range (omega (arith, within)) (omega arith))
      | inr f ↦
          let same : new ≡ mid = OnFalse_at f c.decode_at-2.ensures.2 in
          let bad : ¬ (first_invalid case s ≡ None) = λ none. let t = c.decode_at-2.ensures.0.1 (valid_range case s (2 * at) (2 * at + 2 * rest) (omega (arith, within)) none) in cc in
          rw (f, same) (bad, blocks_stored blocks (omega arith) (omega arith) (omega arith) (omega (arith, within)) bad (λ room valid. absurd (omega (arith, room, blocks_past n size (omega arith)))))
    ]
