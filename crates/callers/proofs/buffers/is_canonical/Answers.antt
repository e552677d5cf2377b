-- A strict policy accepts the texts of its case.
use Rattle.hex_core.specs.Text.{lowercase}
use Rattle.callers.proofs.buffers.is_canonical.Goals as goal

pub returns : goal.returns
returns c =
    let law = c.a_strict_policy_accepts_the_texts_of_its_case.ensures.accepted lowercase c.args.digits.now in
    (λ yes. law.0 (c.is_accepted.ensures.0 yes), λ some. c.is_accepted.ensures.1 (law.1 some))
