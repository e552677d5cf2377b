use Rattle.std.proofs.Common.{◌-◌, ◌+◌, vec_len}
use Rattle.std.specs.Io.KnownBytes.{Consumes}
use Rattle.hex_program.proofs.input.read_input.Given as goal

abbrev pub decreases-reads : goal.decreases-reads
decreases-reads g l = 16777216 + 1 - vec_len l.all

-- what is held so far is what was read
abbrev pub invariant-reads : goal.invariant-reads
invariant-reads g l = Consumes (g.R.Read.remaining l.initial.input) (g.R.Read.remaining l.input) l.all.items
