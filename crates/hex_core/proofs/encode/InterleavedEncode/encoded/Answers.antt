use Rattle.hex_core.proofs.ByteLemmas.{shuffled_text}
use Rattle.hex_core.proofs.encode.InterleavedEncode.encoded.Goals as goal

pub returns : goal.returns
returns g c =
    rw (c.shuffle.ensures, c.unpack.ensures, c.high_bits.ensures, c.and_splat.ensures)
    (shuffled_text c.args.upper c.digits.result c.args.v c.digits.ensures c.fits-v.1)
