-- The text of the blocks before this turn has been written.
use Rattle.std.proofs.Common.{◌*◌}
use Rattle.hex_core.proofs.TextLemmas.{Written}
use Rattle.hex_core.proofs.encode.encode_blocks.Given as goal

abbrev pub invariant-turns : goal.invariant-turns
invariant-turns g l = Written l.fn.upper l.src l.dst (l.i * g.row.N)
