use Rattle.hex_core.proofs.PairLemmas.{packs_both}
use Rattle.hex_core.proofs.vector.pack_both.Goals as goal

pub returns : goal.returns
returns c = packs_both c.args.front c.args.back c.products-front.result c.products-back.result c.fits-front.0 c.fits-back.0 c.requires.front c.requires.back c.products-front.ensures c.products-back.ensures
