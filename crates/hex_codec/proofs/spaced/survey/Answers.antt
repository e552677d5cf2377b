-- The next lines or the next run are counted and tested too.
use Rattle.std.proofs.Common.{◌+◌, ◌*◌, ◌∙◌, arith, ap, refl, sym, length, length-append, take, drop, length-drop, List, ℕ, ◌≤◌}
use Rattle.std.proofs.Math.Bool.{and-eq-true_iff}
use Rattle.std.proofs.Math.Nat.{add-sub_cancel_left}
use Rattle.std.proofs.lemmas.List.{length-take-le, take_rest}
use Rattle.hex_codec.specs.Spaced.{unspaced}
use Rattle.hex_codec.proofs.SpacedLemmas.{invalid-more, lines-digits, unspaced-le, unspaced-more}
use Rattle.hex_codec.proofs.spaced.survey.Goals as goal

lines-inside : (s : List ℕ) (at n : ℕ) → at ≤ length s → n ≤ length (drop at s) → at + n ≤ length s
lines-inside s at n before fits = omega (arith, before, fits, length-drop at s)

pub runs-init : goal.runs-init
runs-init c =
    let head = c.args.head in
    let told = lines-digits c.args.case c.args.src.now head.len head.gap head.count c.requires.lines head.count (omega arith) in
    (c.requires.lines.inside, sym told.0, (λ _. told.1, λ _. refl))

pub overflow_add-count : goal.overflow_add-count
overflow_add-count c =
    let s = c.args.src.now in let at = c.runs.at in let found = c.lines_of-lines.result in let end = found.count * (found.len + found.gap) in
    let lines = rw (take_rest s at) at c.lines_of-lines.ensures in
    let told = lines-digits c.args.case (drop at s) found.len found.gap found.count lines found.count (omega arith) in
    let all = ap length (unspaced-more at end s) ∙ length-append (unspaced (take at s)) (unspaced (take end (drop at s))) in
    omega (arith, c.runs.invariant.1, told.0, all, unspaced-le (take (at + end) s), length-take-le (at + end) s (lines-inside s at end c.runs.invariant.0 lines.inside))

pub runs-preserved-then-lines-gt0 : goal.runs-preserved-then-lines-gt0
runs-preserved-then-lines-gt0 c =
    let s = c.args.src.now in let at = c.runs.at in let found = c.lines_of-lines.result in let end = found.count * (found.len + found.gap) in
    let lines = rw (take_rest s at) at c.lines_of-lines.ensures in
    let told = lines-digits c.args.case (drop at s) found.len found.gap found.count lines found.count (omega arith) in
    let all = ap length (unspaced-more at end s) ∙ length-append (unspaced (take at s)) (unspaced (take end (drop at s))) in
    let joined = invalid-more c.args.case at end s in (
      lines-inside s at end c.runs.invariant.0 lines.inside,
      omega (arith, c.runs.invariant.1, told.0, all),
      (λ yes. joined.1 (c.runs.invariant.2.0 yes, told.1), λ none. c.runs.invariant.2.1 (joined.0 none).0),
    )

pub overflow_add-count-in-runs : goal.overflow_add-count-in-runs
overflow_add-count-in-runs c =
    let s = c.args.src.now in let at = c.runs.at in let run = c.run_len-run.result in
    let inside = lines-inside s at run c.runs.invariant.0 (rw (take_rest s at) at c.run_len-run.ensures.inside) in
    let count = rw (add-sub_cancel_left at run) at c.survey_bytes-more.ensures.count in
    let all = ap length (unspaced-more at run s) ∙ length-append (unspaced (take at s)) (unspaced (take run (drop at s))) in
    omega (arith, c.runs.invariant.1, count, all, unspaced-le (take (at + run) s), length-take-le (at + run) s inside)

pub runs-preserved : goal.runs-preserved
runs-preserved c =
    let s = c.args.src.now in let at = c.runs.at in let run = c.run_len-run.result in
    let inside = lines-inside s at run c.runs.invariant.0 (rw (take_rest s at) at c.run_len-run.ensures.inside) in
    let count = rw (add-sub_cancel_left at run) at c.survey_bytes-more.ensures.count in
    let clean = rw (add-sub_cancel_left at run) at c.survey_bytes-more.ensures.clean in
    let all = ap length (unspaced-more at run s) ∙ length-append (unspaced (take at s)) (unspaced (take run (drop at s))) in
    let both = and-eq-true_iff c.runs.is_clean c.survey_bytes-more.result.1 in
    let joined = invalid-more c.args.case at run s in (
      inside,
      omega (arith, c.runs.invariant.1, count, all),
      (
        λ yes. joined.1 (c.runs.invariant.2.0 (both.0 yes).0, clean.0 (both.0 yes).1),
        λ none. both.1 (c.runs.invariant.2.1 (joined.0 none).0, clean.1 (joined.0 none).1),
      ),
    )
