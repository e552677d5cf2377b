-- The digits of a part are the next of those of all bytes.
use Rattle.std.proofs.Common.{◌≡◌, ◌+◌, ◌-◌, ◌∙◌, ap, ℕ, ◌++◌, append_assoc, drop, sym, take, take-append-drop, arith}
use Rattle.std.proofs.lemmas.List.{length-take-le}
use Rattle.hex_io.specs.Frame.{digits_by}
use Rattle.hex_io.proofs.ContinueLemmas.{digits-start, take-more}
use Rattle.hex_io.proofs.PutsLemmas.{Puts-stop, Puts-then, Takes-then}
use Rattle.hex_io.proofs.digits.put_parts.Goals as goal

taken : (at k : ℕ) → at + k - at ≡ k
taken at k = omega arith

pub returns-in_err-put_all : goal.returns-in_err-put_all
returns-in_err-put_all g c =
    let st = g.S.Sink.state in let bytes = c.args.bytes.now in let at = c.parts.at in let k = c.min.result in let so_far = c.parts.invariant in
    let next = rw (taken at k, ← take-more at k bytes so_far.0) at (c.added_digits.ensures (take at bytes) (length-take-le at bytes so_far.0)) in
    let rest = rw (take-append-drop (at + k) bytes) at (digits-start c.args.group c.args.upper (take (at + k) bytes) (drop (at + k) bytes)) in
    let failed = Puts-stop c.from_residual.result rest.0 c.from_residual.ensures.0 c.in_err-put_all.ensures.puts in
    let whole = sym (append_assoc (digits_by c.args.group c.args.upper (take at bytes)) c.added_digits.result.now rest.0) ∙ ap (λ l. l ++ rest.0) next ∙ rest.1 in
    rw whole at (Puts-then (st c.args.sink.now) (st c.parts.sink) (st c.put_all.new.sink) c.from_residual.result _ _ so_far.1 failed)

pub parts-preserved : goal.parts-preserved
parts-preserved g c =
    let st = g.S.Sink.state in let bytes = c.args.bytes.now in let at = c.parts.at in let k = c.min.result in let so_far = c.parts.invariant in
    let next = rw (taken at k, ← take-more at k bytes so_far.0) at (c.added_digits.ensures (take at bytes) (length-take-le at bytes so_far.0)) in
    (omega (arith, c.min.ensures, c.parts-test.true), rw (← next) (Takes-then (st c.args.sink.now) (st c.parts.sink) (st c.put_all.new.sink) _ _ so_far.1 c.in_ok-put_all.ensures.puts))
