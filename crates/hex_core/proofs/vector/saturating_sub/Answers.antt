use Rattle.std.proofs.Common.{◌-◌, ◌∙◌, Fits, w8, replicate}
use Rattle.std.proofs.lemmas.Simd.{Each1-replicate, zip2_splat}
use Rattle.hex_core.proofs.LaneLemmas.{differences}
use Rattle.hex_core.proofs.vector.saturating_sub.Goals as goal

pub returns : goal.returns
returns g c = differences c.args.v (replicate g.row.N c.args.by) c.fits-v.1 (Each1-replicate (Fits w8) g.row.N c.args.by c.ranges.by) ∙ zip2_splat (λ x y. x - y) c.args.v g.row.N c.args.by c.fits-v.0
