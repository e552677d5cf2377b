-- What was read before an allocation failed.
use Rattle.std.proofs.KnownBytes.{Consumes-trans}
use Rattle.hex_program.proofs.input.read_input.Goals as goal

pub returns-then-is_err-clause-err : goal.returns-then-is_err-clause-err
returns-then-is_err-clause-err g c =
    let left = g.R.Read.remaining in
    ((_, Consumes-trans (left c.args.input.now) (left c.reads.input) (left c.read.new.self) _ _ c.reads.invariant c.in-Ok.ensures.bytes.0), tt)
