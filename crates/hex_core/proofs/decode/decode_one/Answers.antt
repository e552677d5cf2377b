use Rattle.std.proofs.Common.{refl, arith}
use Rattle.std.proofs.lemmas.Bool.{iff_false}
use std.Logic.{↔_trans}
use Rattle.hex_core.proofs.BlockLemmas.{block_decodes, decodes_whole, small_valid, valid_whole}
use Rattle.hex_core.proofs.decode.decode_one.Goals as goal

pub returns-then-not-is_small : goal.returns-then-not-is_small
returns-then-not-is_small g c =
    let n = g.row.N in let tested = ↔_trans c.is_small.ensures (↔_trans (small_valid n c.nibbles_at-nibbles.ensures (omega arith)) (valid_whole c.args.case c.args.src.now n (omega arith))) in
    (iff_false tested c.if-not-is_small.true, refl)

pub returns : goal.returns
returns g c =
    let n = g.row.N in let tested = ↔_trans c.is_small.ensures (↔_trans (small_valid n c.nibbles_at-nibbles.ensures (omega arith)) (valid_whole c.args.case c.args.src.now n (omega arith))) in (
      tested.0 c.if-not-is_small.false,
      decodes_whole {old = c.args.dst.now} {n = g.row.HALF} (block_decodes g.row.HALF c.nibbles_at-nibbles.ensures (c.is_small.ensures.0 c.if-not-is_small.false) c.pack_at.ensures (omega arith) refl (omega arith) (omega arith)) (omega arith) (omega arith),
    )
