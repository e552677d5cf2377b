-- A payload that spells a list within the bound is within it too.
use Rattle.std.proofs.Common.{arith, ◌≡◌, ◌/◌, length}
use Rattle.faster_hex.proofs.adapters.read.Goals as goal

pub returns-in_err-payload-clause-read : goal.returns-in_err-payload-clause-read
returns-in_err-payload-clause-read g c = λ bytes reads within.
    let half : length reads.payload / 2 ≡ length bytes = omega (arith, reads.spelled.twice) in
    let accepted = c.in_err-payload.ensures.within reads.payload reads.is_payload (rw half within) in absurd (cc accepted)
