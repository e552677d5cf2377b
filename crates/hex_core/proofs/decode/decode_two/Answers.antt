use Rattle.std.proofs.Common.{◌-◌, length, refl, ◌∙◌, arith}
use Rattle.std.proofs.lemmas.Bool.{iff_false}
use Rattle.hex_core.proofs.BlockLemmas.{decodes_whole, pair_decodes, pair_tested}
use Rattle.hex_core.proofs.decode.decode_two.Goals as goal

pub returns-then-not-is_small : goal.returns-then-not-is_small
returns-then-not-is_small g c = (
  iff_false (pair_tested c.is_small.ensures c.or.ensures.small c.nibbles_at-front.ensures c.nibbles_at-back.ensures (omega arith) (omega arith)) c.if-not-is_small.true,
  refl,
)

pub returns : goal.returns
returns g c =
    let front = c.nibbles_at-front.ensures in let back = c.nibbles_at-back.ensures in let end = length c.args.dst.now in
    let small = c.or.ensures.small.0 (c.is_small.ensures.0 c.if-not-is_small.false) in (
      (pair_tested c.is_small.ensures c.or.ensures.small front back (omega arith) (omega arith)).0 c.if-not-is_small.false,
      decodes_whole {old = c.args.dst.now} {n = end}
          (pair_decodes (end - 32) 32 front back small (c.pack_at-2.ensures ∙ rw c.pack_at.ensures refl) (omega arith) refl (omega arith) (omega arith) (omega arith) (omega arith) (omega arith)) (omega arith) (omega arith),
    )
