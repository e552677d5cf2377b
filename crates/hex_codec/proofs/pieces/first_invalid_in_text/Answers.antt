-- The first wrong byte is one of the next part, or stands behind it.
use Rattle.std.proofs.Common.{◌+◌, ◌*◌, ◌≤◌, sym, ap, ◌∙◌, arith, Some, None, drop, option_map}
use Rattle.std.proofs.Math.Nat.{add-sub_cancel_left}
use Rattle.std.proofs.lemmas.List.{take_rest}
use Rattle.hex_codec.proofs.PartLemmas.{digit-invalid}
use Rattle.hex_codec.proofs.WriteLemmas.{last-size, tests-last, tests-mark, tests-more}
use Rattle.hex_codec.proofs.pieces.first_invalid_in_text.Goals as goal

pub returns-in-Some : goal.returns-in-Some
returns-in-Some c =
    let first = rw (add-sub_cancel_left c.pieces.at (2 * c.every-every.result), c.every-every.ensures.value) at (sym c.first_invalid.ensures ∙ c.in-Some.is) in
    let digit = digit-invalid c.args.case c.args.group (drop c.pieces.at c.args.src.now) c.in-Some.index first in
    sym (c.pieces.invariant.rest ∙ ap (option_map (λ i. c.pieces.at + i)) digit)

pub returns-then-src-end : goal.returns-then-src-end
returns-then-src-end c =
    let none = sym c.first_invalid.ensures ∙ c.in_default.is in
    let more = rw c.every-every.ensures.value at c.pieces-test.true in
    let differs = rw (c.every-every.ensures.value, c.sep.ensures.value) at c.if-src-end.true in
    rw c.every-every.ensures.value (sym (tests-mark c.args.case c.args.group c.args.src.now c.pieces.at c.pieces.left c.pieces.invariant more
    (rw (add-sub_cancel_left c.pieces.at (2 * c.every-every.result), c.every-every.ensures.value) at none) differs))

pub pieces-preserved : goal.pieces-preserved
pieces-preserved c =
    let none = sym c.first_invalid.ensures ∙ c.in_default.is in
    let more = rw c.every-every.ensures.value at c.pieces-test.true in
    let mark = rw (c.every-every.ensures.value, c.sep.ensures.value) at c.if-src-end.false in
    rw c.every-every.ensures.value (tests-more c.args.case c.args.group c.args.src.now c.pieces.at c.pieces.left c.pieces.invariant more
    (rw (add-sub_cancel_left c.pieces.at (2 * c.every-every.result), c.every-every.ensures.value) at none) mark)

pub first_invalid-requires-2 : goal.first_invalid-requires-2
first_invalid-requires-2 c =
    let short : c.pieces.left ≤ c.args.group.every = omega (arith, c.pieces-test.false, c.every-every.ensures.value) in
    rw (take_rest c.args.src.now c.pieces.at)
    (omega (arith, last-size c.args.case c.args.group c.args.src.now c.pieces.at c.pieces.left c.pieces.invariant.long short))

pub returns-in-Some-first_invalid : goal.returns-in-Some-first_invalid
returns-in-Some-first_invalid c =
    let first = sym c.first_invalid-2.ensures ∙ c.in-Some-first_invalid.is in
    sym (tests-last c.args.case c.args.group c.args.src.now c.pieces.at c.pieces.left (Some c.in-Some-first_invalid.index) c.pieces.invariant
    (omega (arith, c.pieces-test.false, c.every-every.ensures.value)) (rw (take_rest c.args.src.now c.pieces.at) at first))

pub returns-in-None : goal.returns-in-None
returns-in-None c =
    let none = sym c.first_invalid-2.ensures ∙ c.in-None.is in
    sym (tests-last c.args.case c.args.group c.args.src.now c.pieces.at c.pieces.left None c.pieces.invariant
    (omega (arith, c.pieces-test.false, c.every-every.ensures.value)) (rw (take_rest c.args.src.now c.pieces.at) at none))
