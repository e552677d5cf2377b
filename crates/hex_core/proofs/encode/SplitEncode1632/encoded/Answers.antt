use Rattle.hex_core.proofs.ByteLemmas.{looked_text}
use Rattle.hex_core.proofs.encode.SplitEncode1632.encoded.Goals as goal

pub returns : goal.returns
returns c =
    rw (c.unpack.ensures, c.shuffle-high.ensures, c.shuffle-low.ensures, c.high_bits.ensures, c.and_splat.ensures)
    (looked_text c.args.upper c.digits-digits.result c.args.v c.digits-digits.ensures c.fits-v.1)
