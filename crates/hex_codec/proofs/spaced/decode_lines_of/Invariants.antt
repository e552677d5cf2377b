-- The lines before this place are decoded.
use Rattle.std.proofs.Common.{◌≡◌, ◌+◌, ◌*◌}
use Rattle.hex_codec.specs.inside.{DecodesLines}
use Rattle.hex_codec.proofs.spaced.decode_lines_of.Given as goal

abbrev pub invariant-lines : goal.invariant-lines
invariant-lines l = (l.at ≡ l.counter * (l.lines.len + l.lines.gap)) × (l.done ≡ l.counter * l.pairs) × DecodesLines l.case l.src l.initial.dst l.dst l.at l.done
