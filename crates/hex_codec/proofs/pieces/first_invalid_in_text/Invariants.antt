-- No byte before this place is wrong.
use Rattle.hex_codec.proofs.WriteLemmas.{Tests}
use Rattle.hex_codec.proofs.pieces.first_invalid_in_text.Given as goal

abbrev pub invariant-pieces : goal.invariant-pieces
invariant-pieces l = Tests l.case l.group l.src l.at l.left

abbrev pub decreases-pieces : goal.decreases-pieces
decreases-pieces l = l.left
