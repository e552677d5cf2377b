-- The quotient and the remainder of the byte are the values of its digits.
use Rattle.std.proofs.Common.{◌≡◌, ◌+◌, ◌*◌, ◌/◌, ◌%◌, arith, refl, sym, ◌∙◌}
use Rattle.hex_core.proofs.ByteLemmas.{value_small}
use Rattle.hex_codec.proofs.spaced.pair_byte.Goals as goal

pub returns : goal.returns
returns c =
    let high = c.unwrap.result in let low = c.unwrap-2.result in
    let first = sym c.digit_value.ensures.value ∙ c.unwrap.ensures in
    let second = sym c.digit_value-2.ensures.value ∙ c.unwrap-2.ensures in
    let small = value_small c.args.case c.args.low low second in
    let quotient : (16 * high + low) / 16 ≡ high = omega (arith, small) in
    let remainder : (16 * high + low) % 16 ≡ low = omega (arith, small) in
    record { twice = refl; each = λ i lt. (let at : i ≡ 0 = omega arith in rw at (record { high = rw quotient first; low = rw remainder second })) }
