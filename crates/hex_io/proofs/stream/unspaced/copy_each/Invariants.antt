-- The bytes so far are copied.
use Rattle.std.proofs.Common.{◌≡◌, length}
use Rattle.hex_io.specs.inside.{HasCopied}
use Rattle.hex_io.proofs.stream.unspaced.copy_each.Given as goal

abbrev pub invariant-loop-i : goal.invariant-loop-i
invariant-loop-i l = (length l.block ≡ length l.initial.block) × HasCopied l.src l.i l.block l.count
