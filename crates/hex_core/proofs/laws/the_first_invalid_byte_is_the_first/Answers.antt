use Rattle.hex_core.proofs.SearchLemmas.{exactly_first, none_is_all_valid, part_is_valid}
use Rattle.hex_core.proofs.laws.the_first_invalid_byte_is_the_first.Goals as goal

pub returns : goal.returns
returns c = record { first = exactly_first; none = none_is_all_valid; parts = part_is_valid }
