-- The sink has taken the digits of what was read so far.
use Rattle.std.proofs.Common.{◌≡◌, ◌-◌, ◌^◌, List, ℕ, length}
use Rattle.std.specs.Io.KnownBytes.{Consumes}
use Rattle.hex_io.specs.Frame.{digits_by}
use Rattle.hex_io.specs.SinkState.{Takes}
use Rattle.hex_io.proofs.stream.encode_by.Given as goal

abbrev pub decreases-reads : goal.decreases-reads
decreases-reads g l = 2 ^ 64 - l.total

abbrev pub invariant-reads : goal.invariant-reads
invariant-reads g l = (bytes : List ℕ) × Consumes (g.R.Read.remaining l.initial.reader) (g.R.Read.remaining l.reader) bytes × (l.total ≡ length bytes)
    × Takes (g.S.Sink.state l.initial.sink) (g.S.Sink.state l.sink) (digits_by l.fn.group l.fn.upper bytes)
