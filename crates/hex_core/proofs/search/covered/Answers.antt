use Rattle.std.proofs.Common.{◌≡◌, ◌<◌, ◌≤◌, ◌+◌, ◌-◌, ◌*◌, ◌/◌, ◌%◌, length, refl, sym, ap, ◌∙◌, arith}
use Rattle.std.proofs.lemmas.Bool.Decides.{nat_tests}
use Rattle.hex_core.specs.Probe.{ValidIn}
use Rattle.hex_core.proofs.BlockLemmas.{block_inside, covers_end, covers_failed, covers_whole, valid_range, last_valid, whole_valid}
use Rattle.hex_core.proofs.SearchLemmas.{adds_then, valid_same}
use Rattle.hex_core.proofs.search.covered.Goals as goal

pub returns-then-not-test : goal.returns-then-not-test
returns-then-not-test g c =
    let p = g.P.Probe.state c.args.p.now in
    let start = c.turns.i * c.block-block.result in
    let kept = c.turns.invariant.counted in
    let block : c.block-block.result ≡ p.block = omega arith in
    let inside : start + c.block-block.result ≤ length p.source = omega (arith, block_inside c.len-len.result c.block-block.result c.turns.i (omega arith) c.turns-test.true) in
    let fails : ¬ ValidIn p start (start + c.block-block.result) = λ valid. let t = c.test.ensures.valid.1 ((valid_same p (g.P.Probe.state c.turns.p) start (start + c.block-block.result) kept.2).1 valid) in cc in record {
      valid = (λ h. cc, λ none. absurd (fails (valid_range p.policy p.source start (start + c.block-block.result) inside none)));
      counted = adds_then p (g.P.Probe.state c.turns.p) (g.P.Probe.state c.test.new.self) 0 c.turns.i 0 1 0 _ refl (covers_failed p.policy p.source p.block c.turns.i _ refl c.requires.some (rw (← block) inside) c.turns.invariant.valid (rw (← block) fails)) kept c.test.ensures.counted;
    }

pub returns-then-len-block-eq0 : goal.returns-then-len-block-eq0
returns-then-len-block-eq0 g c =
    let p = g.P.Probe.state c.args.p.now in
    let whole : length p.source % p.block ≡ 0 = grind (arith, nat_tests) in
    let front : ValidIn p 0 (length p.source / p.block * p.block) = λ k low lt. c.turns.invariant.valid k low (grind (arith, nat_tests)) in
    let turns : c.turns.i ≡ length p.source / p.block = grind (arith, nat_tests) in
    let kept = c.turns.invariant.counted in
    let none = whole_valid p.policy p.source p.block whole front in record {
      valid = (λ h. none, λ _. rw (c.if-len-block-eq0.true) refl);
      counted = (kept.0, omega (arith, kept.1, covers_whole (length p.source) p.block _ none whole, turns), kept.2);
    }

pub returns-else-len-block-eq0 : goal.returns-else-len-block-eq0
returns-else-len-block-eq0 g c =
    let p = g.P.Probe.state c.args.p.now in
    let kept = c.turns.invariant in
    let turns : c.turns.i ≡ length p.source / p.block = grind (arith, nat_tests) in
    let rest : 0 < length p.source % p.block = grind (arith, nat_tests) in
    let front : ValidIn p 0 (length p.source / p.block * p.block) = λ k low lt. kept.valid k low (grind (arith, nat_tests)) in
    let last = last_valid p.policy p.source p.block c.requires.some c.requires.most front in
    let from : c.len-len.result - c.block-block.result ≡ length p.source - p.block = omega arith in
    let to : c.len-len.result - c.block-block.result + c.block-block.result ≡ length p.source = omega arith in
    let same = valid_same p (g.P.Probe.state c.turns.p) (c.len-len.result - c.block-block.result) (c.len-len.result - c.block-block.result + c.block-block.result) kept.counted.2 in
    let test = c.test-else-len-block-eq0.ensures in record {
      valid = (
        λ passed. last.0 (λ k low lt. same.0 (test.valid.0 passed) k (omega arith) (omega arith)),
        λ none. test.valid.1 (same.1 (λ k low lt. last.1 none k (omega arith) (omega arith))),
      );
      counted = adds_then p (g.P.Probe.state c.turns.p) (g.P.Probe.state c.test-else-len-block-eq0.new.self) 0 c.turns.i 0 1 0 _ refl (covers_end p.policy p.source p.block _ refl c.requires.some rest front ∙ ap (λ n. n + 1) (sym turns)) kept.counted test.counted;
    }
