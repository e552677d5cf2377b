use Rattle.std.proofs.Common.{◌*◌, ◌-◌, length, refl, ◌∙◌, arith}
use Rattle.hex_core.proofs.TextLemmas.{written-all, written-more, written-none}
use Rattle.hex_core.proofs.encode.encode_two.Goals as goal

pub returns : goal.returns
returns g c =
    let src = c.args.src.now in let n = g.row.N in let i = length src - n in
    let front = written-more 0 n n 0 (omega arith) (omega arith) (omega arith) refl (written-none c.args.upper src c.args.dst.now (omega arith)) in
    c.write-2.ensures ∙ rw c.write.ensures (written-all (length src) refl (written-more i n (length src) (2 * i) (omega arith) (omega arith) (omega arith) refl front))
