use Rattle.hex_core.proofs.SpellsLemmas.{SpellsBelow}
use Rattle.hex_core.proofs.look_ups.write_bytes.Given as goal

abbrev pub invariant-bytes : goal.invariant-bytes
invariant-bytes l = SpellsBelow l.fn.case l.src l.dst l.i
