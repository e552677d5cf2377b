use Rattle.hex_core.proofs.LawProofs.{spells-bytes}
use Rattle.hex_core.proofs.laws.a_text_spells_one_list.Goals as goal

pub returns-clause-bytes : goal.returns-clause-bytes
returns-clause-bytes c = spells-bytes
