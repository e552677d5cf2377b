use Rattle.std.proofs.Common.{◌+◌, ◌*◌, ◌-◌, length, refl, arith}
use std.Logic.{↔_trans}
use Rattle.std.proofs.lemmas.Bool.{OnFalse_at, OnTrue_at, iff_false}
use Rattle.hex_core.specs.inside.Blocks.{DecodesRange}
use Rattle.hex_core.proofs.BlockLemmas.{both_valid, decodes_over, decodes_whole, pair_decodes, pair_valid, parts_tested, valid_range}
use Rattle.hex_core.proofs.decode.decode_eight.Goals as goal

pub returns-then-not-is_small : goal.returns-then-not-is_small
returns-then-not-is_small g c =
    let case = c.args.case in let s = c.args.src.now in let len = length s in
    let one = pair_valid (len - 128) c.or.ensures.small c.nibbles_at-fifth.ensures c.nibbles_at-sixth.ensures (omega arith) (omega arith) (omega arith) in
    let two = pair_valid len c.or-2.ensures.small c.nibbles_at-seventh.ensures c.nibbles_at-last.ensures (omega arith) (omega arith) (omega arith) in
    let test = ↔_trans c.is_small.ensures (both_valid case s (len - 256) (len - 128) (len - 128) len len c.or-3.ensures.small one two refl (omega arith) (omega arith) (omega arith)) in
    (λ none. iff_false test c.if-not-is_small.true (valid_range case s (len - 256) len (omega arith) none), refl)

pub returns-then-not-decode_part : goal.returns-then-not-decode_part
returns-then-not-decode_part g c =
    let case = c.args.case in let s = c.args.src.now in
    (λ none. iff_false c.decode_part.ensures.0 c.if-not-decode_part.true (valid_range case s (2 * 0) (2 * 0 + 2 * 128) (omega arith) none), OnFalse_at c.if-not-decode_part.true c.decode_part.ensures.2)

pub returns : goal.returns
returns g c =
    let case = c.args.case in let s = c.args.src.now in let old = c.args.dst.now in let len = length s in let end = length old in
    let fifth = c.nibbles_at-fifth.ensures in let sixth = c.nibbles_at-sixth.ensures in let seventh = c.nibbles_at-seventh.ensures in let last = c.nibbles_at-last.ensures in
    let one = pair_valid (len - 128) c.or.ensures.small fifth sixth (omega arith) (omega arith) (omega arith) in
    let two = pair_valid len c.or-2.ensures.small seventh last (omega arith) (omega arith) (omega arith) in
    let test = ↔_trans c.is_small.ensures (both_valid case s (len - 256) (len - 128) (len - 128) len len c.or-3.ensures.small one two refl (omega arith) (omega arith) (omega arith)) in
    let whole = parts_tested case s (2 * 0 + 2 * 128) (len - 256) len (λ t. t, λ t. t) (λ t. t, λ t. t) c.decode_part.ensures.0 test refl (omega arith) (omega arith) in
    let small = c.or-3.ensures.small.0 (c.is_small.ensures.0 c.if-not-is_small.false) in
    let part = c.decode_part.new.dst in let mid = c.pack_two_at.new.dst in let new = c.pack_two_at-2.new.dst in
    let front : DecodesRange case s old part 0 (0 + 128) = OnTrue_at c.if-not-decode_part.false c.decode_part.ensures.1 in
    let more : DecodesRange case s part mid (end - 128) (end - 64) =
    pair_decodes (end - 128 + 32) 32 fifth sixth (c.or.ensures.small.0 small.0) c.pack_two_at.ensures (omega arith) (omega arith) (omega arith) (omega arith) (omega arith) (omega arith) (omega arith) in
    let back : DecodesRange case s mid new (end - 64) end =
    pair_decodes (end - 64 + 32) 32 seventh last (c.or-2.ensures.small.0 small.1) c.pack_two_at-2.ensures (omega arith) (omega arith) (omega arith) (omega arith) (omega arith) (omega arith) (omega arith) in
    (whole.0 (c.if-not-decode_part.false, c.if-not-is_small.false), decodes_whole (decodes_over front (decodes_over more back (omega arith) (omega arith) (omega arith)) (omega arith) (omega arith) (omega arith)) (omega arith) (omega arith))
