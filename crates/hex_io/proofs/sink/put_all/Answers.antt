-- A put that took some of the rest goes on, and one that failed ends the call.
use Rattle.std.proofs.Common.{arith, drop, length-drop, Ok, Err, take-append-drop}
use Rattle.std.proofs.Math.Seq.{take-add}
use Rattle.std.proofs.lemmas.List.{take_rest}
use Rattle.hex_io.proofs.PutsLemmas.{PutsPiece-stops, PutsPiece-takes, Stops-then, Takes-then}
use Rattle.hex_io.proofs.sink.put_all.Goals as goal

pub returns-in-Ok-eq0 : goal.returns-in-Ok-eq0
returns-in-Ok-eq0 g c =
    let piece = c.args.piece.now in let at = c.loop-at.at in
    let stopped = PutsPiece-stops _ _ (Ok c.in-Ok-eq0.field-0) (drop at piece) (simp length-drop (omega arith)) c.in-Ok-eq0.field-0-test (rw (take_rest piece at) at c.in-Ok-eq0.ensures.puts) in
    record { puts = rw (← take-append-drop at piece) (Stops-then _ _ _ _ _ c.loop-at.invariant.taken stopped) }

pub loop-at-preserved : goal.loop-at-preserved
loop-at-preserved g c =
    let piece = c.args.piece.now in let at = c.loop-at.at in
    let put = rw (take_rest piece at) at c.in-Ok.ensures.puts in
    let more = PutsPiece-takes _ _ c.in-Ok.count (drop at piece) (omega arith) put in
    record {
      within = omega (arith, put.0.0, length-drop at piece);
      taken = rw (take-add at c.in-Ok.count piece) (Takes-then _ _ _ _ _ c.loop-at.invariant.taken more);
    }

pub returns-in-Err : goal.returns-in-Err
returns-in-Err g c =
    let piece = c.args.piece.now in let at = c.loop-at.at in
    let stopped = PutsPiece-stops _ _ (Err c.in-Err.fault) (drop at piece) (simp length-drop (omega arith)) tt (rw (take_rest piece at) at c.in-Err.ensures.puts) in
    record { puts = rw (← take-append-drop at piece) (Stops-then _ _ _ _ _ c.loop-at.invariant.taken stopped) }
