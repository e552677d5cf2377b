use Rattle.std.proofs.Common.{◌+◌, ◌-◌, length, refl, ◌∙◌, arith}
use Rattle.std.proofs.lemmas.Bool.{iff_false}
use Rattle.hex_core.specs.inside.Blocks.{DecodesRange}
use Rattle.hex_core.proofs.BlockLemmas.{block_decodes, decodes_over, decodes_whole, pair_decodes, pair_valid, parts_tested, small_valid}
use Rattle.hex_core.proofs.decode.decode_three.Goals as goal

pub returns-then-not-is_small : goal.returns-then-not-is_small
returns-then-not-is_small g c =
    let s = c.args.src.now in
    let pair = pair_valid (64 + 64) c.or.ensures.small c.nibbles_at-first.ensures c.nibbles_at-second.ensures refl (omega arith) (omega arith) in
    let test = parts_tested c.args.case s (64 + 64) (length s - 64) (length s) c.is_small.ensures c.or-2.ensures.small pair (small_valid (length s) c.nibbles_at-last.ensures (omega arith)) refl (omega arith) (omega arith) in
    (iff_false test c.if-not-is_small.true, refl)

pub returns : goal.returns
returns g c =
    let case = c.args.case in let s = c.args.src.now in let old = c.args.dst.now in let end = length old in
    let first = c.nibbles_at-first.ensures in let second = c.nibbles_at-second.ensures in let last = c.nibbles_at-last.ensures in
    let pair = pair_valid (64 + 64) c.or.ensures.small first second refl (omega arith) (omega arith) in
    let test = parts_tested case s (64 + 64) (length s - 64) (length s) c.is_small.ensures c.or-2.ensures.small pair (small_valid (length s) last (omega arith)) refl (omega arith) (omega arith) in
    let small = c.or-2.ensures.small.0 (c.is_small.ensures.0 c.if-not-is_small.false) in
    let mid = c.pack_at-2.new.dst in
    let front : DecodesRange case s old mid 0 64 =
    pair_decodes 32 32 first second (c.or.ensures.small.0 small.0) (c.pack_at-2.ensures ∙ rw c.pack_at.ensures refl) (omega arith) (omega arith) (omega arith) (omega arith) (omega arith) (omega arith) (omega arith) in
    let back : DecodesRange case s mid c.pack_at-3.new.dst (end - 32) end =
    block_decodes 32 last small.1 c.pack_at-3.ensures (omega arith) (omega arith) (omega arith) (omega arith) in
    (test.0 c.if-not-is_small.false, decodes_whole (decodes_over front back (omega arith) (omega arith) (omega arith)) (omega arith) (omega arith))
