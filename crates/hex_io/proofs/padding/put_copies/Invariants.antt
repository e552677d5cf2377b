-- The blocks so far have been taken, and no put has failed.
use Rattle.std.proofs.Common.{◌*◌, encode_utf8}
use Rattle.std.specs.List.{repeat}
use Rattle.hex_io.specs.SinkState.{Takes}
use Rattle.hex_io.proofs.padding.put_copies.Given as goal

abbrev pub invariant-full : goal.invariant-full
invariant-full g l = Takes (g.S.Sink.state l.fn.sink) (g.S.Sink.state l.sink) (repeat (64 * l.counter) (encode_utf8 l.fn.fill))
