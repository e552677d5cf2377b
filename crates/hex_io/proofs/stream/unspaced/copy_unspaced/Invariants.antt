-- The blocks so far are copied.
use Rattle.std.proofs.Common.{◌≡◌, ◌*◌, length}
use Rattle.hex_io.specs.inside.{HasCopied}
use Rattle.hex_io.proofs.stream.unspaced.copy_unspaced.Given as goal

abbrev pub invariant-turns : goal.invariant-turns
invariant-turns l = (length l.block ≡ length l.initial.block) × HasCopied l.src (32 * l.i) l.block l.count
