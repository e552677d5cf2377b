-- The digits that were written are UTF-8, and as many as the text has.
use Rattle.std.proofs.Common.{ap, ◌∙◌, length}
use Rattle.hex_core.proofs.AsciiLemmas.{IsUtf8-text}
use Rattle.hex_core.proofs.TextLemmas.{length-text}
use Rattle.hex_codec.proofs.chunks.chunk_text.Goals as goal

pub from_utf8_unchecked-requires : goal.from_utf8_unchecked-requires
from_utf8_unchecked-requires c = rw c.encode.ensures.text (IsUtf8-text c.args.upper c.args.chunk.now (λ i. (c.type_inv.chunk i).fits))

pub returns-clause-len : goal.returns-clause-len
returns-clause-len c = ap length (c.from_utf8_unchecked.ensures ∙ c.encode.ensures.text) ∙ length-text c.args.upper c.args.chunk.now
