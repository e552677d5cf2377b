use Rattle.std.proofs.Common.{ℕ, replicate, arith}
use Rattle.std.proofs.lemmas.Simd.{take_more_put_chunk}
use Rattle.hex_core.proofs.widths.widened.Goals as goal

pub returns : goal.returns
returns g c = take_more_put_chunk 0 (replicate {A = ℕ} 64 0) c.args.v g.row.N (omega (arith, c.fits-v.0)) (omega arith)
