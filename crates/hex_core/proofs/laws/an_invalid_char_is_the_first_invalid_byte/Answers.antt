use Rattle.std.proofs.Common.{arith}
use Rattle.std.proofs.lemmas.Bool.Decides.{nat_tests}
use Rattle.hex_core.proofs.SearchLemmas.{invalid_char_names_first}
use Rattle.hex_core.proofs.laws.an_invalid_char_is_the_first_invalid_byte.Goals as goal

pub returns : goal.returns
returns c = record {
  slice = λ room case s i b h. invalid_char_names_first case s i b (grind (arith, nat_tests, h));
  array = λ n case s i b h. invalid_char_names_first case s i b (grind (arith, nat_tests, h));
  source = λ case s i b h. invalid_char_names_first case s i b (grind (arith, nat_tests, h));
}
