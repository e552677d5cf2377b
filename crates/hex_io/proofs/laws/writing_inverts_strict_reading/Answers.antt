use Rattle.hex_io.proofs.EntryLemmas.{source-back}
use Rattle.hex_io.proofs.laws.writing_inverts_strict_reading.Goals as goal

pub returns : goal.returns
returns c = record { inverts = λ n upper s entries all. source-back upper s entries c.encoding_inverts_strict_decoding.ensures.inverts all }
