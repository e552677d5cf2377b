use Rattle.std.proofs.Common.{◌*◌, ◌+◌, refl, arith}
use Rattle.hex_core.proofs.BlockLemmas.{valid_range, block_decodes}
use Rattle.hex_core.proofs.decode.write_at.Goals as goal

pub values_at-requires : goal.values_at-requires
values_at-requires g c = (omega arith, (omega arith, valid_range c.args.case c.args.src.now (2 * c.args.at) (2 * c.args.at + g.row.N) (omega arith) c.requires.valid))

pub returns : goal.returns
returns g c = block_decodes g.row.HALF c.values_at.ensures.nibbles c.values_at.ensures.small c.pack_at.ensures c.requires.half refl refl c.requires.room.1
