use Rattle.std.proofs.Common.{arith, ◌∙◌}
use Rattle.std.proofs.lemmas.List.{map-id}
use Rattle.std.proofs.lemmas.Simd.{shifts_fit_splat}
use Rattle.hex_core.proofs.LaneLemmas.{averages_fit, averages_of}
use Rattle.hex_core.proofs.vector.rounding_averages.Goals as goal

pub overflow_shr-result : goal.overflow_shr-result
overflow_shr-result g c = shifts_fit_splat 16 _ g.row.N 1 (omega arith)

pub overflow_cast-result : goal.overflow_cast-result
overflow_cast-result g c = rw (averages_of c.args.a c.args.b g.row.N c.fits-a c.fits-b) (averages_fit c.args.a c.args.b c.fits-a.1 c.fits-b.1)

pub returns : goal.returns
returns g c = map-id _ ∙ averages_of c.args.a c.args.b g.row.N c.fits-a c.fits-b
