-- The states of the two sinks of this crate.
use Rattle.std.specs.Prelude.{◌≡◌, ℕ, ◌-◌, ◌==◌, nat_lt, ◌&&◌, if◌then◌else◌, min, List, [], length, take, drop, Option}
use Rattle.std.specs.Prelude.{Some, None, IsSome, Result, Ok, Err, MatchResult, OnErr}
use Rattle.std.specs.Borrow.{MutBor}
use Rattle.std.specs.Io.KnownBytes.{Keeps}
use Rattle.std.specs.declared.io.Error.{Error}
use Rattle.hex_io.specs.declared.sink.SinkFault.{SinkFault}
use Rattle.hex_io.specs.declared.sink.SliceSink.{SliceSink}
use Rattle.hex_io.specs.declared.sink.WriterSink.{WriterSink}
use Rattle.hex_io.specs.SinkState.{PutsPiece, SinkState}

-- the bytes that a `SliceSink` took, which are the start of its buffer
abbrev pub written_bytes : SliceSink → List ℕ
written_bytes sink = take sink.used sink.buf.now

-- the number of free bytes of a `SliceSink`
abbrev pub free_len : SliceSink → ℕ
free_len sink = length sink.buf.now - sink.used

-- the state of a `SliceSink`
abbrev pub slice_state : SliceSink → SinkState
slice_state sink = record {
  taken = Some (written_bytes sink);
  failures = sink.refused;
  free = Some (drop sink.used sink.buf.now);
  loan = Some sink.buf.ghost_name;
}

-- the writer in a `WriterSink`
abbrev pub writer_of : {W : Type 0} → WriterSink W → W
writer_of sink = sink.writer

-- the error that a `WriterSink` keeps, which is the last one of its writer
abbrev pub kept_error : {W : Type 0} → WriterSink W → Option Error
kept_error sink = sink.last_error

-- the state of a `WriterSink`. `contents` says what its writer has taken
abbrev pub writer_state : {W : Type 0} → (W → Option (List ℕ)) → WriterSink W → SinkState
writer_state contents sink = record { taken = contents sink.writer; failures = sink.failed; free = None; loan = None }

-- a new `WriterSink`: it has this writer, no error and no failures
abbrev pub IsFreshOver : {W : Type 0} → (W → Option (List ℕ)) → W → WriterSink W → Type 0
IsFreshOver contents writer sink = (writer_of sink ≡ writer) × (kept_error sink ≡ None) × ((writer_state contents sink).failures ≡ 0)

-- the state of a new `SliceSink`: it took nothing, and all of its buffer is free
abbrev pub fresh_state : MutBor (List ℕ) → SinkState
fresh_state buf = record { taken = Some []; failures = 0; free = Some buf.now; loan = Some buf.ghost_name }

-- a put into a `SliceSink`. If the piece is nonempty and nothing is free, it is refused and takes nothing.
-- Otherwise it takes what fits
abbrev pub TakesWhatFits : SliceSink → SliceSink → Result ℕ SinkFault → List ℕ → Type 0
TakesWhatFits old new result piece =
    (result ≡ (if free_len old == 0 && nat_lt 0 (length piece) then Err (record {}) else Ok (min (length piece) (free_len old))))
    × OnErr result (written_bytes new ≡ written_bytes old)

-- a put into a `WriterSink`. `contents` says what its writer has taken
abbrev pub PutsIntoWriter : {W : Type 0} → (W → Option (List ℕ)) → WriterSink W → WriterSink W → Result ℕ SinkFault → List ℕ → Type 0
PutsIntoWriter contents old new result piece = PutsPiece (writer_state contents old) (writer_state contents new) result piece

-- a put into a `WriterSink` that is refused keeps an error, and the writer took nothing. Otherwise the error
-- is unchanged
abbrev pub KeepsError : {W : Type 0} → (W → Option (List ℕ)) → WriterSink W → WriterSink W → Result ℕ SinkFault → Type 0
KeepsError contents old new result = MatchResult result
    (λ _. kept_error new ≡ kept_error old)
    (λ _. Keeps (contents (writer_of old)) (contents (writer_of new)) × IsSome (kept_error new))
