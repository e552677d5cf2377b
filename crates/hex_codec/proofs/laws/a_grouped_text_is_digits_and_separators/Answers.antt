use Rattle.hex_codec.proofs.GroupLemmas.{length-grouped}
use Rattle.hex_codec.proofs.GroupTextLemmas.{made, text-digits}
use Rattle.hex_codec.proofs.laws.a_grouped_text_is_digits_and_separators.Goals as goal

pub returns : goal.returns
returns c = record { long = length-grouped; bytes = made; text = text-digits }
