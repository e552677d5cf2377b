use Rattle.hex_codec.proofs.SpelledLemmas.{front_spelled}
use Rattle.hex_codec.proofs.decode.hex_decode_into.Goals as goal

pub returns-clause-spelled : goal.returns-clause-spelled
returns-clause-spelled c = front_spelled c.args.case c.args.src.now c.args.dst.now c.decode_into.new.dst c.decode_into.result c.decode_into.ensures.answer
