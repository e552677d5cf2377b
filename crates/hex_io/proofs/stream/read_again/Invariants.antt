-- Interrupted reads gave nothing.
use Rattle.std.specs.Io.KnownBytes.{Keeps}
use Rattle.hex_io.proofs.stream.read_again.Given as goal

abbrev pub invariant-tries : goal.invariant-tries
invariant-tries g l = Keeps (g.R.Read.remaining l.initial.reader) (g.R.Read.remaining l.reader)
