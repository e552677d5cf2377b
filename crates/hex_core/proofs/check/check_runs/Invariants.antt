use Rattle.std.proofs.Common.{◌*◌}
use Rattle.hex_core.specs.Search.{AllValid}
use Rattle.hex_core.proofs.check.check_runs.Given as goal

abbrev pub invariant-turns : goal.invariant-turns
invariant-turns g l = AllValid l.fn.case l.src 0 (l.i * 512)
