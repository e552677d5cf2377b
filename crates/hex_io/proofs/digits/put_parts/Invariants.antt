-- The sink has taken the digits of the bytes before the parts that are left.
use Rattle.std.proofs.Common.{◌-◌, ◌≤◌, length, take}
use Rattle.hex_io.specs.Frame.{digits_by}
use Rattle.hex_io.specs.SinkState.{Takes}
use Rattle.hex_io.proofs.digits.put_parts.Given as goal

abbrev pub invariant-parts : goal.invariant-parts
invariant-parts g l = (l.at ≤ length l.bytes)
    × Takes (g.S.Sink.state l.initial.sink) (g.S.Sink.state l.sink) (digits_by l.group l.upper (take l.at l.bytes))

abbrev pub decreases-parts : goal.decreases-parts
decreases-parts g l = length l.bytes - l.at
