-- The sink has taken what the decoder wrote of all that was read.
use Rattle.std.proofs.Common.{◌≡◌, ◌-◌, ◌^◌, List, ℕ, length}
use Rattle.std.specs.Io.KnownBytes.{Consumes}
use Rattle.hex_io.specs.Decoder.{HasFed, position_of, reading_of}
use Rattle.hex_io.specs.SinkState.{Takes}
use Rattle.hex_io.proofs.stream.decode_by_decoder.Given as goal

abbrev pub decreases-reads : goal.decreases-reads
decreases-reads g l = 2 ^ 64 - position_of l.decoder

abbrev pub invariant-reads : goal.invariant-reads
invariant-reads g l = (reading_of l.decoder ≡ reading_of l.initial.decoder)
    × ((digits : List ℕ) × ((written : List ℕ) × HasFed l.decoder digits written × (l.total ≡ length written)
    × Consumes (g.R.Read.remaining l.initial.reader) (g.R.Read.remaining l.reader) digits
    × Takes (g.S.Sink.state l.initial.sink) (g.S.Sink.state l.sink) written))
