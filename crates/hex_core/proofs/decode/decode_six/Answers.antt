use Rattle.std.proofs.Common.{◌+◌, ◌*◌, ◌-◌, length, refl, arith}
use std.Logic.{↔_trans}
use Rattle.std.proofs.lemmas.Bool.{OnFalse_at, OnTrue_at, iff_false}
use Rattle.hex_core.specs.inside.Blocks.{DecodesRange}
use Rattle.hex_core.proofs.BlockLemmas.{decodes_over, decodes_whole, pair_decodes, pair_valid, parts_tested, valid_range}
use Rattle.hex_core.proofs.decode.decode_six.Goals as goal

pub returns-then-not-is_small : goal.returns-then-not-is_small
returns-then-not-is_small g c =
    let case = c.args.case in let s = c.args.src.now in let len = length s in
    let test = ↔_trans c.is_small.ensures (pair_valid len c.or.ensures.small c.nibbles_at-fifth.ensures c.nibbles_at-last.ensures (omega arith) (omega arith) (omega arith)) in
    (λ none. iff_false test c.if-not-is_small.true (valid_range case s (len - 128) len (omega arith) none), refl)

pub returns-then-not-decode_part : goal.returns-then-not-decode_part
returns-then-not-decode_part g c =
    let case = c.args.case in let s = c.args.src.now in
    (λ none. iff_false c.decode_part.ensures.0 c.if-not-decode_part.true (valid_range case s (2 * 0) (2 * 0 + 2 * 128) (omega arith) none), OnFalse_at c.if-not-decode_part.true c.decode_part.ensures.2)

pub returns : goal.returns
returns g c =
    let case = c.args.case in let s = c.args.src.now in let old = c.args.dst.now in let len = length s in let end = length old in
    let fifth = c.nibbles_at-fifth.ensures in let last = c.nibbles_at-last.ensures in
    let test = ↔_trans c.is_small.ensures (pair_valid len c.or.ensures.small fifth last (omega arith) (omega arith) (omega arith)) in
    let whole = parts_tested case s (2 * 0 + 2 * 128) (len - 128) len (λ t. t, λ t. t) (λ t. t, λ t. t) c.decode_part.ensures.0 test refl (omega arith) (omega arith) in
    let small = c.or.ensures.small.0 (c.is_small.ensures.0 c.if-not-is_small.false) in
    let part = c.decode_part.new.dst in
    let front : DecodesRange case s old part 0 (0 + 128) = OnTrue_at c.if-not-decode_part.false c.decode_part.ensures.1 in
    let back : DecodesRange case s part c.pack_two_at.new.dst (end - 64) end =
    pair_decodes (end - 64 + 32) 32 fifth last small c.pack_two_at.ensures (omega arith) (omega arith) (omega arith) (omega arith) (omega arith) (omega arith) (omega arith) in
    (whole.0 (c.if-not-decode_part.false, c.if-not-is_small.false), decodes_whole (decodes_over front back (omega arith) (omega arith) (omega arith)) (omega arith) (omega arith))
