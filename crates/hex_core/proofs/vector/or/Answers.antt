use Rattle.std.proofs.Common.{◌≡◌, ◌<◌, bit_and, bit_or, sym, ◌∙◌}
use Rattle.hex_core.proofs.LaneLemmas.{each_of_two, or_clear, or_small}
use Rattle.hex_core.proofs.vector.or.Goals as goal

pub returns-clause-small : goal.returns-clause-small
returns-clause-small g c = each_of_two bit_or (λ x. x < 16) or_small c.args.a c.args.b (c.fits-a.0 ∙ sym c.fits-b.0)

pub returns-clause-clear : goal.returns-clause-clear
returns-clause-clear g c mask = each_of_two bit_or (λ x. bit_and x mask ≡ 0) (or_clear mask) c.args.a c.args.b (c.fits-a.0 ∙ sym c.fits-b.0)
