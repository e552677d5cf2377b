-- The search is inside the source.
use Rattle.std.proofs.Common.{◌-◌, ◌≤◌, length, min}
use Rattle.hex_codec.proofs.spaced.run_len.Given as goal

abbrev pub invariant-blocks-2 : goal.invariant-blocks-2
invariant-blocks-2 l = (min (length l.src) 1 ≤ l.end) × (l.end ≤ length l.src)

abbrev pub decreases-blocks-2 : goal.decreases-blocks-2
decreases-blocks-2 l = length l.src - l.end
