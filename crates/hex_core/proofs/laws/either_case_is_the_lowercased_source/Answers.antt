use Rattle.hex_core.proofs.LawProofs.{either-lowercased}
use Rattle.hex_core.proofs.laws.either_case_is_the_lowercased_source.Goals as goal

pub returns-clause-same : goal.returns-clause-same
returns-clause-same c = either-lowercased
