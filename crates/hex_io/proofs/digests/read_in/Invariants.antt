-- The lines before the place have been read as the entries, and none has a fault.
use Rattle.std.proofs.Common.{◌+◌, ◌-◌, ◌≤◌, drop, length}
use Rattle.hex_io.proofs.LineLemmas.{ReadSoFar}
use Rattle.hex_io.proofs.digests.read_in.Given as goal

abbrev pub invariant-loop-at : goal.invariant-loop-at
invariant-loop-at g l = record {
  so_far : ReadSoFar l.case l.src (drop l.at l.src) l.line l.entries.items;
  bound : l.line ≤ l.at + 1;
}

abbrev pub decreases-loop-at : goal.decreases-loop-at
decreases-loop-at g l = length l.src + 1 - l.at
