use Rattle.std.proofs.Common.{arith}
use Rattle.hex_core.proofs.OwnedLemmas.{part_decodes}
use Rattle.hex_core.proofs.decode.decode_part.Goals as goal

pub returns : goal.returns
returns g c = part_decodes c.args.case c.args.src.now c.args.dst.now c.decode_four.new.dst c.args.at 128 c.decode_four.result (omega arith) (omega arith) (omega arith) c.decode_four.ensures
