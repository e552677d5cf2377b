-- The first newline is that of the bytes behind the blocks so far.
use Rattle.std.proofs.Common.{◌≡◌, ◌+◌, ◌*◌, drop}
use Rattle.std.specs.List.{position_or_len}
use Rattle.hex_io.proofs.LineLemmas.{newline}
use Rattle.hex_io.proofs.lines.line_end.Given as goal

abbrev pub invariant-turns : goal.invariant-turns
invariant-turns l = position_or_len newline l.src ≡ 32 * l.i + position_or_len newline (drop (32 * l.i) l.src)
