use Rattle.std.proofs.Common.{◌*◌}
use Rattle.hex_core.specs.Probe.{Adds, ValidIn}
use Rattle.hex_core.proofs.search.test_blocks.Given as goal

-- the blocks so far are valid, and each was one test
abbrev pub invariant-loop-block : goal.invariant-loop-block
invariant-loop-block g l = record {
  valid : ValidIn (g.P.Probe.state l.fn.p) 0 (64 * l.block);
  counted : Adds 0 l.block (g.P.Probe.state l.fn.p) (g.P.Probe.state l.p);
}
