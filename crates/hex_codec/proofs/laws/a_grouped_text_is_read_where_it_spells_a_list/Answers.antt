use Rattle.hex_codec.proofs.GroupTextLemmas.{one-spelled, read-spelled}
use Rattle.hex_codec.proofs.laws.a_grouped_text_is_read_where_it_spells_a_list.Goals as goal

pub returns : goal.returns
returns c = record { some = read-spelled; one = one-spelled }
