use Rattle.std.proofs.Common.{◌+◌}
use Rattle.hex_core.proofs.SearchLemmas.{part_tested}
use Rattle.hex_core.proofs.slice_probe.SliceProbeProbe.test.Goals as goal

pub returns-clause-valid : goal.returns-clause-valid
returns-clause-valid c =
    let p = c.args.self.now in
    part_tested p.case p.src.now c.args.start (c.args.start + c.args.width) c.check.result c.requires.inside c.check.ensures.valid
