-- Definitions that only private functions use. No public contract depends on them.
use Rattle.std.specs.Prelude.{◌≡◌, ◌⊎◌, ℕ, List, Option, Result, Ok, Err, IfErr}
use Rattle.std.specs.Io.KnownBytes.{Keeps}
use Rattle.hex_program.specs.Streaming.{ServesStreamOp}
use Rattle.hex_program.specs.declared.stream.StreamOp.{StreamOp}
use Rattle.hex_program.specs.declared.operation.RunFault.{RunFault}
use Rattle.hex_program.specs.declared.operation.RunFault.TheVariants as fault
use Rattle.hex_io.specs.declared.stream.StreamFault.{StreamFault}
use Rattle.hex_io.specs.declared.stream.StreamFault.TheVariants as stream_fault
use Rattle.hex_program.specs.declared.failure.Failure.{Failure}
use Rattle.hex_program.specs.declared.failure.Failure.TheVariants.{Codec, ReadFailed, WriteFailed, OutOfMemory}

-- how `fhex` ends after a run. If the run had no fault, only a write can still fail. Otherwise the failure is
-- that of the fault
abbrev pub EndsRun : Result (Unit {0}) RunFault → Result (Unit {0}) Failure → Type 0
EndsRun (Ok done) ended = IfErr ended (λ failure. failure ≡ WriteFailed)
EndsRun (Err (fault.Codec e)) ended = ended ≡ Err (Codec e)
EndsRun (Err (fault.Write why)) ended = ended ≡ Err WriteFailed
EndsRun (Err fault.OutOfMemory) ended = ended ≡ Err OutOfMemory

-- how the program ends after a run of `fhex-stream`, if the output can be flushed
abbrev pub ended_by : Result (Unit {0}) StreamFault → Result (Unit {0}) Failure
ended_by (Ok done) = Ok done
ended_by (Err stream_fault.Read) = Err ReadFailed
ended_by (Err (stream_fault.Codec e)) = Err (Codec e)
ended_by (Err (stream_fault.Write why)) = Err WriteFailed

-- how `fhex-stream` ends after a run: with the result of the run, or because the output could not be flushed
abbrev pub EndsStreamRun : Result (Unit {0}) StreamFault → Result (Unit {0}) Failure → Type 0
EndsStreamRun ran ended = (ended ≡ Err WriteFailed) ⊎ (ended ≡ ended_by ran)

-- a run of `fhex-stream` serves an operation, if a flush then keeps what was written
abbrev pub RunsStream : StreamOp → Option (List ℕ) → Option (List ℕ) → Option (List ℕ) → Option (List ℕ) → Result (Unit {0}) StreamFault → Type 0
RunsStream op left left' held held' ran = (after : Option (List ℕ)) → Keeps held' after → ServesStreamOp op left left' held after (ended_by ran)
