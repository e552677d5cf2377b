-- The lines before this place are digits and the same white space.
use Rattle.std.proofs.Common.{◌≡◌, ◌+◌, ◌*◌, ◌-◌, length}
use Rattle.hex_codec.specs.inside.{AreLines}
use Rattle.hex_codec.proofs.spaced.line_count_of.Given as goal

abbrev pub invariant-lines : goal.invariant-lines
invariant-lines l = (l.at ≡ l.count * (l.len + l.gap)) × AreLines l.case l.src l.len l.gap l.count

abbrev pub decreases-lines : goal.decreases-lines
decreases-lines l = length l.src - l.at
