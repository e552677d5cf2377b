-- What the run of all that was read put, and how the program ended, is how the operation is served.
use Rattle.std.specs.Prelude.{ℕ, List, [], Option, Result, Ok, Err}
use Rattle.std.specs.Io.KnownBytes.{Keeps}
use Rattle.std.proofs.Common.{sym, append-nil}
use Rattle.hex_io.specs.SinkState.{SinkState}
use Rattle.hex_io.specs.SliceAndWriterSinks.{writer_state}
use Rattle.hex_program.specs.declared.operation.Op.{Op}
use Rattle.hex_program.specs.declared.operation.RunFault.{RunFault}
use Rattle.hex_program.specs.declared.operation.RunFault.TheVariants as fault
use Rattle.hex_program.specs.declared.failure.Failure.{Failure}
use Rattle.hex_program.specs.Operations.{Runs}
use Rattle.hex_program.specs.Serving.{EndsOp, ReadsAll}
use Rattle.hex_program.specs.inside.{EndsRun}
use Rattle.hex_program.proofs.Parts.{part-all, part-of, written}
use Rattle.hex_program.proofs.program.serve_op.Goals as goal

-- all of an input was read, run and flushed
ends_run : (op : Op) (input : List ℕ) (left left' held' : Option (List ℕ)) (old new : SinkState) (ran : Result (Unit {0}) RunFault) (ended : Result (Unit {0}) Failure)
    → ReadsAll left left' input → Runs op input old new ran → Keeps new.taken held' → EndsRun ran ended → EndsOp op left left' old.taken held' ended
ends_run op input left left' held' old new (Ok done) (Ok well) all ran kept ends =
    record { input = input; output = ran.0; read = all; is_output = ran.1; wrote = written old new held' kept ran.0 ran.2 }
ends_run op input left left' held' old new (Ok done) (Err failure) all ran kept ends =
    rw ends (record { input = input; output = ran.0; read = all; is_output = ran.1; wrote = part-all old new held' kept ran.0 [] ran.0 (append-nil ran.0) ran.2 })
ends_run op input left left' held' old new (Err (fault.Write why)) ended all ran kept ends =
    rw ends (record { input = input; output = ran.0; read = all; is_output = ran.1; wrote = part-of old new held' kept ran.0 [] ran.0 (append-nil ran.0) ran.2 })
ends_run op input left left' held' old new (Err (fault.Codec e)) ended all ran kept ends =
    rw ends (record { input = input; read = all; is_refusal = ran.0; kept = rw ran.1 at kept })
ends_run op input left left' held' old new (Err fault.OutOfMemory) ended all ran kept ends = rw ends ((input, all.0), tt, rw ran.1 at kept)

pub returns : goal.returns
returns g c =
    let shows = writer_state g.W.Write.contents in
    let kept = rw c.into_inner-out.ensures.writer at c.finish-ended.ensures.kept in
    let all = rw (sym c.as_slice.ensures.value) at c.in-Ok.ensures.ok in
    let served = ends_run c.args.op c.as_slice.result.now (g.R.Read.remaining c.args.input.now) (g.R.Read.remaining c.read_input.new.input) (g.W.Write.contents c.finish-ended.new.out)
    (shows c.new-sink.result) (shows c.run_in-ran.new.sink) c.run_in-ran.result c.finish-ended.result all c.run_in-ran.ensures.answer kept c.finish-ended.ensures.ended in
    rw c.new-sink.ensures.fresh.0 at served
