use Rattle.std.proofs.Common.{◌<◌, is_some, length, refl, sym, ◌∙◌, ap, arith}
use Rattle.hex_core.proofs.SearchLemmas.{adds_none, adds_then, first_invalid_is, first_invalid_none, looks_ended, looks_found}
use Rattle.hex_core.proofs.SearchLemmas.{looks_near, read_along}
use Rattle.hex_core.proofs.search.look_from.Goals as goal

pub look-requires-clause-countable : goal.look-requires-clause-countable
look-requires-clause-countable g c =
    let p = g.P.Probe.state c.args.p.now in let kept = c.loop-i.invariant in
    let near = looks_near p.policy p.source c.args.start c.loop-i.i _ refl c.requires.start kept.valid (omega arith) in
    omega (arith, kept.counted.0, near)

pub returns-then-not-has_value : goal.returns-then-not-has_value
returns-then-not-has_value g c =
    let p = g.P.Probe.state c.args.p.now in let kept = c.loop-i.invariant in let at = c.loop-i.i in
    let inside : at < length p.source = omega arith in
    let read = read_along p.policy _ p.source _ at _ _ refl c.case-case.ensures.value c.look.ensures.byte kept.counted.2.0 in
    let here = first_invalid_is p.policy p.source at inside kept.valid (sym (c.has_value.ensures ∙ ap is_some read) ∙ c.if-not-has_value.true) in
    let looks = looks_found p.policy p.source c.args.start at _ refl here c.requires.start in
    record {
      place = sym here;
      counted = adds_then p (g.P.Probe.state c.loop-i.p) (g.P.Probe.state c.look.new.self) _ 0 1 0 _ _ (omega (arith, looks)) refl kept.counted c.look.ensures.counted;
    }

pub returns : goal.returns
returns g c =
    let p = g.P.Probe.state c.args.p.now in let kept = c.loop-i.invariant in
    let none = first_invalid_none p.policy p.source (λ k low lt. kept.valid k low (omega arith)) in
    let looks = looks_ended p.source c.args.start _ none c.requires.start in
    record { place = sym none; counted = adds_then p p (g.P.Probe.state c.loop-i.p) 0 0 _ 0 _ _ (omega (arith, looks)) refl (adds_none p) kept.counted }
