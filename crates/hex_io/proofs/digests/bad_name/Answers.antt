-- The first bad name is the one that was found.
use Rattle.std.proofs.Common.{sym, arith}
use Rattle.std.proofs.lemmas.Grind.{common_steps}
use Rattle.std.proofs.lemmas.List.Sums.{position_or_len_is}
use Rattle.hex_io.proofs.NameLemmas.{bad, none-bad}
use Rattle.hex_io.proofs.digests.bad_name.Goals as goal

pub returns-then-is_bad : goal.returns-then-is_bad
returns-then-is_bad g c =
    let e = c.index-entries-i.result in
    let at = position_or_len_is bad c.args.entries.now c.entries.i e (omega arith) (λ k below. c.entries.invariant k e below) (λ _. sym c.if-is_bad.ensures) in
    grind (arith, common_steps, at)

pub returns : goal.returns
returns g c = sym (none-bad c.args.entries.now (λ k d lt. c.entries.invariant k d (omega arith)))
