-- What both feeds write is what both parts spell, and the first refusal is answered.
use Rattle.std.proofs.Common.{◌++◌, [], refl}
use Rattle.std.proofs.lemmas.Result.{err_from_is_err_and}
use Rattle.callers.proofs.chunks.decode_parts.Goals as goal

pub returns-in_err-one : goal.returns-in_err-one
returns-in_err-one c =
    let refused = rw c.new-decoder.ensures.reading at (c.in_err-one.ensures.feeds [] [] c.new-decoder.ensures.fresh) in
    let end = err_from_is_err_and c.from_residual.result c.from_residual.ensures.1 in
    rw (end.1, end.2, refused) refl

pub returns-in_err-two : goal.returns-in_err-two
returns-in_err-two c =
    let one = rw c.new-decoder.ensures.reading at (c.in_ok-one.ensures.feeds [] [] c.new-decoder.ensures.fresh) in
    let refused = rw (c.in_ok-one.ensures.reading, c.new-decoder.ensures.reading) at (c.in_err-two.ensures.feeds c.args.first.now one.1.0 one.1.3) in
    let end = err_from_is_err_and c.from_residual-in_err-two.result c.from_residual-in_err-two.ensures.1 in
    rw (end.1, end.2, one.0, refused) refl

pub returns-in_err-finish : goal.returns-in_err-finish
returns-in_err-finish c =
    let one = rw c.new-decoder.ensures.reading at (c.in_ok-one.ensures.feeds [] [] c.new-decoder.ensures.fresh) in
    let two = rw (c.in_ok-one.ensures.reading, c.new-decoder.ensures.reading) at (c.in_ok-two.ensures.feeds c.args.first.now one.1.0 one.1.3) in
    let odd = rw (c.in_ok-two.ensures.reading, c.in_ok-one.ensures.reading, c.new-decoder.ensures.reading)
    at (c.in_err-finish.ensures.answer (c.args.first.now ++ c.args.second.now) (one.1.0 ++ two.1.0) two.1.3) in
    let end = err_from_is_err_and c.from_residual-in_err-finish.result c.from_residual-in_err-finish.ensures.1 in
    rw (end.1, end.2, one.0, two.0) odd

pub returns : goal.returns
returns c =
    let one = c.in_ok-one.ensures.feeds [] [] c.new-decoder.ensures.fresh in
    let two = c.in_ok-two.ensures.feeds c.args.first.now one.1.0 one.1.3 in
    let whole = c.in_ok-finish.ensures.answer (c.args.first.now ++ c.args.second.now) (one.1.0 ++ two.1.0) two.1.3 in
    let spelled = rw (c.in_ok-two.ensures.reading, c.in_ok-one.ensures.reading, c.new-decoder.ensures.reading) at whole.1 in
    (one.1.0, two.1.0, spelled, one.1.1, one.1.2, two.1.1, two.1.2)
