use Rattle.hex_io.proofs.NameLemmas.{read-names}
use Rattle.hex_io.proofs.laws.what_was_read_can_be_written.Goals as goal

pub returns : goal.returns
returns c = record { written = λ n case s entries all. read-names case s entries all }
