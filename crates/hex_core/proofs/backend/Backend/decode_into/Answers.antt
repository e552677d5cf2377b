use Rattle.std.proofs.Common.{refl}
use Rattle.std.proofs.lemmas.Result.{err_from_is_err_and}
use Rattle.hex_core.proofs.backend.Backend.decode_into.Goals as goal

pub returns-in_err-required : goal.returns-in_err-required
returns-in_err-required c =
    let ended = err_from_is_err_and c.from_residual.result c.from_residual.ensures.1 in record { answer = rw (ended.1, ended.2) (c.in_err-required.ensures c.args.case, refl) }
