use Rattle.hex_core.proofs.LawProofs.{decoding-inverts}
use Rattle.hex_core.proofs.laws.decoding_inverts_encoding.Goals as goal

pub returns : goal.returns
returns c = record { inverts = decoding-inverts }
