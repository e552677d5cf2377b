use Rattle.std.proofs.Common.{◌∙◌, arith}
use Rattle.hex_core.proofs.TextLemmas.{one_block}
use Rattle.hex_core.proofs.plain.encode_by_length.Goals as goal

pub returns-in-32 : goal.returns-in-32
returns-in-32 c = c.encode_at.ensures ∙ one_block c.args.upper c.args.src.now c.args.dst.now 32 (omega arith) (omega arith)
