-- Each turn writes the digits of one more byte.
use Rattle.std.proofs.Common.{arith, ◌∙◌}
use Rattle.hex_core.proofs.TextLemmas.{text-more}
use Rattle.hex_core.proofs.look_ups.write_digits.Goals as goal

pub digits-preserved : goal.digits-preserved
digits-preserved c = text-more c.args.upper _ c.args.src.now c.digits.dst c.digits.i c.digit_pairs_of-digits.ensures (c.type_inv.src c.digits.i).fits (omega arith) (c.digits.auto.dst ∙ c.requires) c.digits.invariant
