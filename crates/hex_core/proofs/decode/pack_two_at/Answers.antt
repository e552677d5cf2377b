use Rattle.std.proofs.Common.{ap, ◌∙◌, arith}
use lib.Lanes.{put_chunk}
use Rattle.hex_core.specs.inside.Arithmetic.{packed}
use Rattle.hex_core.proofs.BlockLemmas.{put_two}
use Rattle.hex_core.proofs.PairLemmas.{length-packed}
use Rattle.hex_core.proofs.decode.pack_two_at.Goals as goal

pub returns : goal.returns
returns c =
    let f = packed c.args.front in let b = packed c.args.back in
    ap (λ l. put_chunk c.args.at c.args.dst.now l) c.pack_both.ensures ∙ put_two c.args.at c.args.dst.now f b 32 (length-packed c.args.front ∙ omega (arith, c.fits-front.0))
