use Rattle.std.proofs.Common.{◌*◌, ◌+◌, refl, arith}
use Rattle.hex_core.proofs.BlockLemmas.{pair_decodes, valid_range}
use Rattle.hex_core.proofs.decode.write_pair.Goals as goal

pub values_at-front-requires : goal.values_at-front-requires
values_at-front-requires g c = (omega arith, (omega arith, valid_range c.args.case c.args.src.now (2 * c.args.at) (2 * c.args.at + 64) (omega arith) c.requires.valid))

pub values_at-back-requires : goal.values_at-back-requires
values_at-back-requires g c = (omega arith, (omega arith, valid_range c.args.case c.args.src.now (2 * c.args.at + 64) (2 * c.args.at + 64 + 64) (omega arith) c.requires.valid))

pub returns : goal.returns
returns g c = pair_decodes (c.args.at + 32) 32 c.values_at-front.ensures.nibbles c.values_at-back.ensures.nibbles (c.values_at-front.ensures.small, c.values_at-back.ensures.small) c.pack_two_at.ensures refl refl (omega arith) (omega arith) (omega arith) (omega arith) c.requires.room.1
