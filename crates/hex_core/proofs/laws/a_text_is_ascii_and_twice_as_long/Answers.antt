use Rattle.hex_core.proofs.AsciiLemmas.{ascii_and_utf8}
use Rattle.hex_core.proofs.laws.a_text_is_ascii_and_twice_as_long.Goals as goal

pub returns-clause-ascii : goal.returns-clause-ascii
returns-clause-ascii c = ascii_and_utf8
