-- More bytes of a piece, or of the next one, and first of all.
use Rattle.std.proofs.Common.{◌≡◌, arith}
use Rattle.hex_io.proofs.ContinueLemmas.{next-first, next-more}
use Rattle.hex_io.proofs.digits.added_digits.Goals as goal
use Rattle.hex_io.proofs.digits.added_digits.Goals.{then-total-gt0, else-total-gt0}

pub returns-after-total-gt0 : goal.returns-after-total-gt0
returns-after-total-gt0 c = λ done long.
    elim c.if-total-gt0.branch [
      | then-total-gt0 w ↦
          let is = w.every.ensures.value in
          rw (c.in-Some.is, c.separated.ensures, w.follows-is, is)
          (next-more c.in-Some.group c.args.upper c.args.total done c.args.bytes.now long w.if-total-gt0.true c.requires.some (rw c.in-Some.is at c.requires.fits))
      | else-total-gt0 w ↦
          let none : c.args.total ≡ 0 = omega (arith, w.if-total-gt0.false) in
          rw (c.in-Some.is, c.separated.ensures, w.follows-is, none) (next-first c.in-Some.group c.args.upper done c.args.bytes.now (omega (arith, long, w.if-total-gt0.false)))
    ]
