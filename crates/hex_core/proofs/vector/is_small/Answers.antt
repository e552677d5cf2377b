use Rattle.std.proofs.Common.{◌≡◌, ◌<◌, bit_and}
use std.Logic.{↔_trans}
use Rattle.hex_core.proofs.LaneLemmas.{high_bits_are_zero, passes_where}
use Rattle.hex_core.proofs.vector.is_small.Goals as goal

pub returns : goal.returns
returns g c = ↔_trans c.is_zero.ensures (passes_where (λ x. bit_and x 240) (λ x. x ≡ 0) (λ x. x < 16) high_bits_are_zero c.args.v c.fits-v.1 c.and_splat.ensures)
