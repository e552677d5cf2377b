use Rattle.hex_core.proofs.OwnedLemmas.{BlocksDone}
use Rattle.hex_core.proofs.backend.Backend.decode_each_block.Given as goal

abbrev pub invariant-turns : goal.invariant-turns
invariant-turns g l = BlocksDone l.fn.case g.row.SIZE l.i l.src l.fn.dst l.dst
