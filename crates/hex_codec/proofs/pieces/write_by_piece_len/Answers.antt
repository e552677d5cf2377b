-- The text of the next piece stands behind those before it.
use Rattle.std.proofs.Common.{◌-◌, ◌*◌, length, arith}
use Rattle.std.proofs.Math.Nat.{add-sub_cancel_left}
use Rattle.std.proofs.lemmas.List.{take_rest}
use Rattle.hex_codec.proofs.WriteLemmas.{writes-last, writes-more, writes-none}
use Rattle.hex_codec.proofs.pieces.write_by_piece_len.Goals as goal

pub pieces-init : goal.pieces-init
pieces-init g c = writes-none c.args.group c.args.upper c.args.src.now c.args.dst.now c.requires.room

pub pieces-preserved : goal.pieces-preserved
pieces-preserved g c =
    let more = rw c.piece_len-every.ensures at c.pieces-test.true in
    rw (c.write_piece.ensures, c.sep.ensures.value, add-sub_cancel_left c.pieces.at c.piece_len-every.result, add-sub_cancel_left c.pieces.done (2 * c.piece_len-every.result), c.piece_len-every.ensures)
    (writes-more c.args.group c.args.upper c.args.src.now c.args.dst.now c.pieces.dst c.pieces.at c.pieces.done c.pieces.invariant more)

pub returns : goal.returns
returns g c =
    rw (c.write_piece-2.ensures, take_rest c.args.src.now c.pieces.at, add-sub_cancel_left c.pieces.done (2 * (length c.args.src.now - c.pieces.at)))
    (writes-last c.args.group c.args.upper c.args.src.now c.args.dst.now c.pieces.dst c.pieces.at c.pieces.done c.pieces.invariant
    (omega (arith, c.pieces-test.false, c.piece_len-every.ensures)) c.requires.room (omega arith))
