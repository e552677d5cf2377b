-- A text is ASCII.
use Rattle.hex_core.specs.Text.{text}
use Rattle.hex_core.proofs.AsciiLemmas.{IsAscii-text}
use Rattle.hex_io.proofs.ChunkFacts.{filled-front}
use Rattle.hex_io.proofs.digits.encoded.Goals as goal

pub returns-clause-ascii : goal.returns-clause-ascii
returns-clause-ascii c =
    let bytes = c.args.bytes.now in let front = text c.args.upper bytes in
    let shown = filled-front _ front c.args.buffer.now c.hex_encode_into.new.dst c.hex_encode_into.result c.unwrap-len.result c.unwrap-len.ensures c.hex_encode_into.ensures.answer in
    rw shown.1 (IsAscii-text c.args.upper bytes (λ i. (c.type_inv.bytes i).fits))
