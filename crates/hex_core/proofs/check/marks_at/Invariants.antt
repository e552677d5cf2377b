use Rattle.std.proofs.Common.{◌+◌, ◌*◌, ◌↔◌}
use Rattle.hex_core.specs.inside.Arithmetic.{AreClear}
use Rattle.hex_core.specs.Search.{AllValid}
use Rattle.hex_core.proofs.check.marks_at.Given as goal

abbrev pub invariant-turns : goal.invariant-turns
invariant-turns g l = AreClear (g.M.Rows.mask l.fn.case) l.joined ↔ AllValid l.fn.case l.src l.at (l.at + l.i * 64)
