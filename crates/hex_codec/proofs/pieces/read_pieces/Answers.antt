-- The bytes of the next piece are written behind those before it.
use Rattle.std.proofs.Common.{◌-◌, ◌*◌, ◌≤◌, length, length-drop, drop, arith}
use Rattle.std.proofs.Math.Nat.{add-sub_cancel_left}
use Rattle.std.proofs.lemmas.List.{take_rest}
use Rattle.hex_codec.proofs.WriteLemmas.{last-size, next-clear, reads-last, reads-more}
use Rattle.hex_codec.proofs.PartLemmas.{clear-last}
use Rattle.hex_codec.proofs.pieces.read_pieces.Goals as goal

pub read_piece-requires-clause-valid : goal.read_piece-requires-clause-valid
read_piece-requires-clause-valid c =
    let more = rw c.every-every.ensures.value at c.pieces-test.true in
    rw (add-sub_cancel_left c.pieces.at (2 * c.every-every.result), c.every-every.ensures.value)
    (next-clear c.args.case c.args.group c.args.src.now c.pieces.dst c.pieces.at c.pieces.done c.pieces.invariant more).valid

pub pieces-preserved : goal.pieces-preserved
pieces-preserved c =
    let more = rw c.every-every.ensures.value at c.pieces-test.true in
    rw (add-sub_cancel_left c.pieces.done c.every-every.result, c.every-every.ensures.value)
    (reads-more c.args.case c.args.group c.args.src.now c.pieces.dst c.read_piece.new.bytes c.pieces.at c.pieces.done c.pieces.invariant more
    (rw (add-sub_cancel_left c.pieces.at (2 * c.every-every.result), c.every-every.ensures.value) at c.read_piece.ensures))

pub read_piece-requires-2-clause-twice : goal.read_piece-requires-2-clause-twice
read_piece-requires-2-clause-twice c =
    let at = c.pieces.at in let done = c.pieces.done in
    rw (take_rest c.args.src.now at, take_rest c.pieces.dst done, length-drop done c.pieces.dst)
    (last-size c.args.case c.args.group c.args.src.now at (length c.pieces.dst - done) c.pieces.invariant.long (omega (arith, c.pieces-test.false, c.every-every.ensures.value)))

pub read_piece-requires-2-clause-valid : goal.read_piece-requires-2-clause-valid
read_piece-requires-2-clause-valid c =
    let at = c.pieces.at in let src = c.args.src.now in
    let short : length c.pieces.dst - c.pieces.done ≤ c.args.group.every = omega (arith, c.pieces-test.false, c.every-every.ensures.value) in
    let size = last-size c.args.case c.args.group src at (length c.pieces.dst - c.pieces.done) c.pieces.invariant.long short in
    rw (take_rest src at) (clear-last c.args.case c.args.group (drop at src) (omega (arith, size, short)) c.pieces.invariant.clear)

pub returns : goal.returns
returns c =
    reads-last c.args.case c.args.group c.args.src.now c.pieces.dst c.read_piece-2.new.bytes c.pieces.at c.pieces.done c.pieces.invariant
    (omega (arith, c.pieces-test.false, c.every-every.ensures.value)) (rw (take_rest c.args.src.now c.pieces.at) at c.read_piece-2.ensures)
