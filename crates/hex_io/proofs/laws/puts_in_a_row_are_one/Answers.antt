use Rattle.hex_io.proofs.PutsLemmas.{Puts-err, Puts-then, Stops-stop, Stops-then, Takes-none, Takes-then}
use Rattle.hex_io.proofs.laws.puts_in_a_row_are_one.Goals as goal

pub returns : goal.returns
returns c = record {
  taken = λ first second third xs ys later earlier. Takes-then first second third xs ys earlier later;
  stopped = λ first second third xs ys later earlier. Stops-then first second third xs ys earlier later;
  unput = Stops-stop;
  put = λ first second third result xs ys later earlier. Puts-then first second third result xs ys earlier later;
  failed = λ first second result xs. Puts-err first second result xs;
  none = Takes-none;
}
