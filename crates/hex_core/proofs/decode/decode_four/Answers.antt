use Rattle.std.proofs.Common.{◌+◌, ◌-◌, length, refl, arith}
use Rattle.std.proofs.lemmas.Bool.{iff_false}
use Rattle.hex_core.specs.inside.Blocks.{DecodesRange}
use Rattle.hex_core.proofs.BlockLemmas.{decodes_over, decodes_whole, pair_decodes, pairs_tested}
use Rattle.hex_core.proofs.decode.decode_four.Goals as goal

pub returns-then-not-is_small : goal.returns-then-not-is_small
returns-then-not-is_small g c =
    let test = pairs_tested c.is_small.ensures c.or-3.ensures.small c.or.ensures.small c.or-2.ensures.small
    c.nibbles_at-first.ensures c.nibbles_at-second.ensures c.nibbles_at-third.ensures c.nibbles_at-last.ensures (omega arith) (omega arith) (omega arith) in
    (iff_false test c.if-not-is_small.true, refl)

pub returns : goal.returns
returns g c =
    let case = c.args.case in let s = c.args.src.now in let old = c.args.dst.now in let end = length old in
    let first = c.nibbles_at-first.ensures in let second = c.nibbles_at-second.ensures in let third = c.nibbles_at-third.ensures in let last = c.nibbles_at-last.ensures in
    let test = pairs_tested c.is_small.ensures c.or-3.ensures.small c.or.ensures.small c.or-2.ensures.small first second third last (omega arith) (omega arith) (omega arith) in
    let small = c.or-3.ensures.small.0 (c.is_small.ensures.0 c.if-not-is_small.false) in
    let mid = c.pack_two_at.new.dst in
    let front : DecodesRange case s old mid 0 64 =
    pair_decodes (0 + 32) 32 first second (c.or.ensures.small.0 small.0) c.pack_two_at.ensures (omega arith) (omega arith) (omega arith) (omega arith) (omega arith) (omega arith) (omega arith) in
    let back : DecodesRange case s mid c.pack_two_at-2.new.dst (end - 64) end =
    pair_decodes (end - 64 + 32) 32 third last (c.or-2.ensures.small.0 small.1) c.pack_two_at-2.ensures (omega arith) (omega arith) (omega arith) (omega arith) (omega arith) (omega arith) (omega arith) in
    (test.0 c.if-not-is_small.false, decodes_whole (decodes_over front back (omega arith) (omega arith) (omega arith)) (omega arith) (omega arith))
