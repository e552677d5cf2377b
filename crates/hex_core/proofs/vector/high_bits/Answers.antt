use Rattle.std.proofs.Common.{arith}
use Rattle.std.proofs.lemmas.Simd.{shifts_fit_splat}
use Rattle.hex_core.proofs.vector.high_bits.Goals as goal

pub overflow_shr-result : goal.overflow_shr-result
overflow_shr-result g c = shifts_fit_splat 8 c.args.v g.row.N 4 (omega arith)
