-- Of the line of a failure a leading part was written, or all of it.
use Rattle.std.specs.Prelude.{◌++◌, ◌∷◌, []}
use Rattle.hex_program.specs.Serving.{stream_failure_text}
use Rattle.hex_program.proofs.Parts.{written-part}
use Rattle.hex_program.proofs.stream.refuse_stream.Goals as goal

pub returns-clause-message : goal.returns-clause-message
returns-clause-message g c = written-part (stream_failure_text c.args.failure ++ (10 ∷ [])) _ _ c.print_line-err.result.0 c.print_line-err.ensures
