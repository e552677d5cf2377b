use Rattle.std.proofs.Common.{◌∙◌, arith}
use Rattle.hex_core.proofs.TextLemmas.{one_block}
use Rattle.hex_core.proofs.plain.encode_short.Goals as goal

pub returns-in-1 : goal.returns-in-1
returns-in-1 c = c.encode_at.ensures ∙ one_block c.args.upper c.args.src.now c.args.dst.now 1 (omega arith) (omega arith)
