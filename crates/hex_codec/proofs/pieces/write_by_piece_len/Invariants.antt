-- The texts of the pieces before this place are written, each with its separator.
use Rattle.std.proofs.Common.{◌-◌, length}
use Rattle.hex_codec.proofs.WriteLemmas.{WritesRest}
use Rattle.hex_codec.proofs.pieces.write_by_piece_len.Given as goal

abbrev pub invariant-pieces : goal.invariant-pieces
invariant-pieces g l = WritesRest l.group l.upper l.src l.initial.dst l.dst l.at l.done

abbrev pub decreases-pieces : goal.decreases-pieces
decreases-pieces g l = length l.src - l.at
