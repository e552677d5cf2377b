use Rattle.std.proofs.Common.{◌-◌}
use Rattle.hex_core.specs.Probe.{Adds, ValidIn}
use Rattle.hex_core.proofs.search.look_from.Given as goal

-- the bytes so far are valid, and each was one look
abbrev pub invariant-loop-i : goal.invariant-loop-i
invariant-loop-i g l = record {
  valid : ValidIn (g.P.Probe.state l.fn.p) 0 l.i;
  counted : Adds (l.i - l.start) 0 (g.P.Probe.state l.fn.p) (g.P.Probe.state l.p);
}
