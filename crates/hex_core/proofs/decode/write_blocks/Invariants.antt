use Rattle.std.proofs.Common.{◌*◌}
use Rattle.hex_core.specs.inside.Blocks.{DecodesRange}
use Rattle.hex_core.proofs.decode.write_blocks.Given as goal

abbrev pub invariant-turns : goal.invariant-turns
invariant-turns g l = DecodesRange l.fn.case l.src l.fn.dst l.dst 0 (l.i * g.row.HALF)
