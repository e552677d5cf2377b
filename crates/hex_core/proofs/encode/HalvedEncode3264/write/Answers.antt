use Rattle.std.proofs.Common.{ap, length, ◌∙◌, arith}
use Rattle.hex_core.proofs.BlockLemmas.{put_halves}
use Rattle.hex_core.proofs.TextLemmas.{length-text}
use Rattle.hex_core.proofs.encode.HalvedEncode3264.write.Goals as goal

pub returns : goal.returns
returns c =
    put_halves 32 c.args.at c.args.dst.now c.encoded.ensures (ap length c.encoded.ensures ∙ length-text c.args.upper c.args.v ∙ omega (arith, c.fits-v.0))
