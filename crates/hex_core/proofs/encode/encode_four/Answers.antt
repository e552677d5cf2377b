use Rattle.std.proofs.Common.{◌+◌, ◌*◌, ◌-◌, length, refl, ◌∙◌, arith}
use Rattle.hex_core.proofs.TextLemmas.{written-all, written-more, written-none}
use Rattle.hex_core.proofs.encode.encode_four.Goals.{then-len, else-len}
use Rattle.hex_core.proofs.encode.encode_four.Goals as goal

pub returns : goal.returns
returns g c =
    let src = c.args.src.now in let n = g.row.N in let i = length src - 2 * n in let j = length src - n in
    let first = written-more 0 n n 0 (omega arith) (omega arith) (omega arith) refl (written-none c.args.upper src c.args.dst.now (omega arith)) in
    let second = written-more n n (n + n) (2 * n) (omega arith) (omega arith) (omega arith) refl first in
    elim c.if-len.branch [
      | then-len w ↦
          let third = written-more i n (i + n) (2 * i) (omega arith) (omega arith) (omega arith) refl second in
          c.encode_at-3.ensures ∙ rw (w.dst-is, w.encode_at-then-len.ensures, c.encode_at-2.ensures, c.encode_at.ensures)
          (written-all (length src) refl (written-more j n (length src) (2 * j) (omega arith) (omega arith) (omega arith) refl third))
      | else-len w ↦
          c.encode_at-3.ensures ∙ rw (w.dst-is, c.encode_at-2.ensures, c.encode_at.ensures)
          (written-all (length src) refl (written-more j n (length src) (2 * j) (omega (arith, w.if-len)) (omega arith) (omega arith) refl second))
    ]
