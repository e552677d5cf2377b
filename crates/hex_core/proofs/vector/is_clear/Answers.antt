use Rattle.std.proofs.Common.{◌≡◌, bit_and}
use std.Logic.{↔_trans}
use Rattle.hex_core.proofs.LaneLemmas.{passes_where}
use Rattle.hex_core.proofs.vector.is_clear.Goals as goal

pub returns : goal.returns
returns g c =
    let mask = c.args.mask in
    ↔_trans c.is_zero.ensures (passes_where (λ x. bit_and x mask) (λ x. x ≡ 0) (λ x. bit_and x mask ≡ 0) (λ x h. (λ z. z, λ z. z)) c.args.v c.fits-v.1 c.and_splat.ensures)
