-- A run that is flushed is an operation that is served.
use Rattle.std.proofs.Common.{inl, inr}
use Rattle.hex_program.proofs.stream.serve_stream_op.Goals as goal

pub returns : goal.returns
returns g c =
    let kept = rw c.into_inner-out.ensures.writer at c.finish_stream-ended.ensures.kept in
    let served = rw c.new-sink.ensures.fresh.0 at (c.run_stream-ran.ensures (g.W.Write.contents c.finish_stream-ended.new.out) kept) in
    elim c.finish_stream-ended.ensures.ended [ inl is ↦ rw is (record { input = served.input; read = served.read; begun = served.begun; end = tt }) | inr is ↦ rw is served ]
