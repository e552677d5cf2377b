use Rattle.std.proofs.Common.{arith}
use Rattle.std.proofs.lemmas.Simd.{shifts_fit_splat, zip2_splat}
use Rattle.hex_core.proofs.PairLemmas.{eighths_fit}
use Rattle.hex_core.proofs.vector.eighths.Goals as goal

pub overflow_shr-result : goal.overflow_shr-result
overflow_shr-result g c = shifts_fit_splat 32 c.args.v g.row.N 3 (omega arith)

pub returns-clause-words : goal.returns-clause-words
returns-clause-words g c = rw (zip2_splat _ c.args.v g.row.N _ c.fits-v.0) (eighths_fit c.args.v c.fits-v.1)
