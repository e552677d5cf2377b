use Rattle.std.proofs.Common.{eqb-true, refl}
use Rattle.hex_core.proofs.ByteLemmas.{full_16}
use Rattle.hex_core.proofs.maps.SaturatingValidate16.is_valid.Goals as goal

pub returns : goal.returns
returns c =
    let full = full_16 c.args.case c.args.block c.admitted_16.result c.fits-block.0 c.admitted_16.type_inv c.admitted_16.ensures.admitted in
    (λ t. full.0 (eqb-true _ _ t), λ none. rw (full.1 none) refl)
