use Rattle.std.proofs.Common.{◌≡◌, ◌+◌, ◌-◌, length, arith}
use Rattle.hex_core.proofs.BlockLemmas.{decodes_over, decodes_whole}
use Rattle.hex_core.proofs.decode.write_front.Goals as goal

pub returns : goal.returns
returns g c =
    let end = length c.args.dst.now in let last : end - 16 + 16 ≡ end = omega arith in
    decodes_whole {old = c.args.dst.now} {n = end} (decodes_over c.write_at.ensures (rw last at c.write_at-2.ensures) (omega arith) (omega arith) (omega arith)) (omega arith) (omega arith)
