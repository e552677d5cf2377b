-- The lines so far have been taken, and no put has failed.
use Rattle.std.proofs.Common.{take}
use Rattle.hex_io.specs.SinkState.{Takes}
use Rattle.hex_io.specs.Lists.{list_of}
use Rattle.hex_io.proofs.digests.write_to.Given as goal

abbrev pub invariant-loop-entry : goal.invariant-loop-entry
invariant-loop-entry g l = Takes (g.S.Sink.state l.initial.sink) (g.S.Sink.state l.sink) (list_of l.upper (take l.entry-index l.entries))
