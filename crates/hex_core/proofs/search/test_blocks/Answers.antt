use Rattle.std.proofs.Common.{◌≡◌, ◌+◌, ◌*◌, ◌/◌, refl, arith}
use Rattle.std.proofs.lemmas.Bool.Decides.{nat_tests}
use Rattle.hex_core.specs.Probe.{ValidIn}
use Rattle.hex_core.proofs.SearchLemmas.{adds_then, valid_same, stops_at_block, stops_at_end}
use Rattle.hex_core.proofs.search.test_blocks.Goals as goal

pub returns-then-not-test : goal.returns-then-not-test
returns-then-not-test g c =
    let p = g.P.Probe.state c.args.p.now in let at = c.loop-block.block in let kept = c.loop-block.invariant in
    let fails : ¬ ValidIn p (64 * at) (64 * at + 64) = λ valid.
    let passed = c.test.ensures.valid.1 ((valid_same p (g.P.Probe.state c.loop-block.p) (64 * at) (64 * at + 64) kept.counted.2).1 valid) in cc in
    let stops = stops_at_block p.policy p.source at (c.len-whole.result / 64) _ refl (grind (arith, nat_tests)) (omega arith) kept.valid fails in
    record {
      valid = kept.valid;
      start = stops.0;
      counted = adds_then p (g.P.Probe.state c.loop-block.p) (g.P.Probe.state c.test.new.self) 0 at 0 1 0 _ refl (omega (arith, stops.1)) kept.counted c.test.ensures.counted;
    }

pub returns : goal.returns
returns g c =
    let p = g.P.Probe.state c.args.p.now in let kept = c.loop-block.invariant in
    let all : c.loop-block.block ≡ c.len-whole.result / 64 = omega arith in
    let stops = stops_at_end p.policy p.source c.loop-block.block _ refl (grind (arith, nat_tests)) kept.valid in
    record { valid = rw (← all) kept.valid; start = rw (← all) stops.0; counted = rw stops.1 kept.counted }
