use Rattle.std.proofs.Common.{ap₂, ◌∙◌, arith}
use Rattle.std.proofs.lemmas.Bool.Decides.{nat_tests}
use Rattle.hex_core.specs.inside.Hash.{average, hash_row, neighbour_bits}
use Rattle.hex_core.specs.inside.Tables.{entry}
use Rattle.hex_core.proofs.LaneLemmas.{mapped_at, zipped_at}
use Rattle.hex_core.proofs.digit_lanes.hashes.Goals as goal

pub returns : goal.returns
returns g c i h =
    let v = c.args.v in
    let lane = zipped_at average c.shift.result c.shuffle.result i c.rounding_averages.ensures (omega (arith, c.fits-v.0)) (omega (arith, c.fits-v.0)) in
    (neighbour_bits v i, grind (arith, nat_tests), lane ∙ ap₂ average (c.shift.ensures i h) (mapped_at (entry hash_row) v i c.shuffle.ensures h))
