use Rattle.std.proofs.Common.{◌+◌, arith}
use std.Logic.{↔_trans}
use Rattle.hex_core.proofs.BlockLemmas.{valid_chunk}
use Rattle.hex_core.proofs.SearchLemmas.{part_tested}
use Rattle.hex_core.proofs.lane_probe.LaneProbeProbe.test.Goals as goal

pub returns-then-width-clause-valid : goal.returns-then-width-clause-valid
returns-then-width-clause-valid g c =
    let p = c.args.self.now in let start = c.args.start in
    ↔_trans c.is_valid.ensures (valid_chunk p.case p.src.now start g.row.N (start + c.args.width) (omega arith) c.requires.inside)

pub returns-else-width-clause-valid : goal.returns-else-width-clause-valid
returns-else-width-clause-valid g c =
    let p = c.args.self.now in
    part_tested p.case p.src.now c.args.start (c.args.start + c.args.width) c.check_by_look_up.result c.requires.inside c.check_by_look_up.ensures
