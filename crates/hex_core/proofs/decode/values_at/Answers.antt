use Rattle.std.proofs.Common.{arith}
use Rattle.hex_core.proofs.BlockLemmas.{valid_nibbles_chunk}
use Rattle.hex_core.proofs.decode.values_at.Goals as goal

pub returns : goal.returns
returns g c =
    let both = valid_nibbles_chunk c.args.case c.args.src.now c.nibbles.result c.args.at g.row.N c.requires.inside (omega arith) c.requires.valid c.nibbles.ensures in
    record { nibbles = both.0; small = both.1 }
