-- The bytes of the pieces before this place are written.
use Rattle.std.proofs.Common.{◌-◌, length}
use Rattle.hex_codec.proofs.WriteLemmas.{ReadsRest}
use Rattle.hex_codec.proofs.pieces.read_pieces.Given as goal

abbrev pub invariant-pieces : goal.invariant-pieces
invariant-pieces l = ReadsRest l.case l.fn.group l.src l.dst l.at l.done

abbrev pub decreases-pieces : goal.decreases-pieces
decreases-pieces l = length l.dst - l.done
