use Rattle.hex_io.proofs.PutsLemmas.{Puts-err, Stops-stop}
use Rattle.hex_io.proofs.digests.put_line.Goals as goal

pub returns-in_err-put_digits : goal.returns-in_err-put_digits
returns-in_err-put_digits g c =
    Puts-err _ _ _ _ c.from_residual.ensures.0 (Stops-stop _ _ _ _ (Stops-stop _ _ _ _ (Stops-stop _ _ _ _ c.in_err-put_digits.ensures.puts)))
