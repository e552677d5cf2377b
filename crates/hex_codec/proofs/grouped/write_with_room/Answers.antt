-- A text has fewer than three bytes for each byte.
use Rattle.std.proofs.Common.{length, arith}
use Rattle.hex_codec.specs.GroupedWriting.{piece_len}
use Rattle.hex_codec.proofs.CountLemmas.{len-most}
use Rattle.hex_codec.proofs.grouped.write_with_room.Goals as goal

pub write_fitting-requires : goal.write_fitting-requires
write_fitting-requires c = omega (arith, c.requires, len-most (piece_len c.args.group) (length c.args.src.now) c.args.group.is_group.0)
