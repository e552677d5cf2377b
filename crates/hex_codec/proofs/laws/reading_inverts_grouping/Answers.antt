use Rattle.hex_codec.proofs.GroupTextLemmas.{written-read}
use Rattle.hex_codec.proofs.laws.reading_inverts_grouping.Goals as goal

pub returns : goal.returns
returns c = record { inverts = written-read }
