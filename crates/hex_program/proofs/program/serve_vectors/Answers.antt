-- Without memory for the vectors, the line says so.
use Rattle.std.specs.Prelude.{Err}
use Rattle.std.proofs.Common.{inl, refl}
use Rattle.hex_program.specs.declared.failure.Failure.TheVariants.{OutOfMemory}
use Rattle.hex_program.proofs.program.serve_vectors.Goals as goal

pub returns-in_default : goal.returns-in_default
returns-in_default g c =
    let refused = c.refuse-status.ensures in
    record { answer = (Err OutOfMemory, refused.message, (refused.status, inl refl)) }
