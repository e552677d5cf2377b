use Rattle.std.proofs.Common.{◌/◌, map, bit_and, refl, ap}
use Rattle.hex_core.specs.inside.Arithmetic.{interleaved}
use Rattle.hex_core.proofs.LookupLemmas.{front_picked}
use Rattle.hex_core.proofs.vector.both_nibbles.Goals as goal

pub returns : goal.returns
returns c =
    let both = ap (λ l. interleaved (map (λ x. x / 16) l) (map (λ x. bit_and x 15) l)) (front_picked 32 c.args.v c.fits-v.0 refl) in
    rw (c.high_bits.ensures, c.and_splat.ensures) both
