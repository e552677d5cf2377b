-- The front of the piece up to here has been taken, and no put has failed.
use Rattle.std.proofs.Common.{◌-◌, ◌≤◌, length, take}
use Rattle.hex_io.specs.SinkState.{Takes}
use Rattle.hex_io.proofs.sink.put_all.Given as goal

abbrev pub invariant-loop-at : goal.invariant-loop-at
invariant-loop-at g l = record {
  within : l.at ≤ length l.piece;
  taken : Takes (g.S.Sink.state l.initial.sink) (g.S.Sink.state l.sink) (take l.at l.piece);
}

abbrev pub decreases-loop-at : goal.decreases-loop-at
decreases-loop-at g l = length l.piece - l.at
