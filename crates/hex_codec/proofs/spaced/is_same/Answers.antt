-- Two equal bytes at each index.
use Rattle.std.proofs.Common.{◌≡◌, ◌+◌, arith, refl, get_or}
use Rattle.std.proofs.lemmas.Bool.Decides.{nat_tests}
use Rattle.std.proofs.lemmas.List.{drop_more}
use Rattle.hex_codec.proofs.spaced.is_same.Goals as goal

pub returns-then-src-first : goal.returns-then-src-first
returns-then-src-first c = λ next.
    let s = c.args.src.now in let a = c.args.first in let b = c.args.second in
    let two : c.args.len ≡ 2 = omega arith in
    let one : get_or s a 0 ≡ get_or s b 0 = grind (arith, nat_tests, c.if-src-first.true) in
    let other : get_or s (a + 1) 0 ≡ get_or s (b + 1) 0 = grind (arith, nat_tests, next) in
    rw (two, drop_more s a 0 (omega arith), drop_more s (a + 1) 0 (omega arith), drop_more s b 0 (omega arith), drop_more s (b + 1) 0 (omega arith), one, other) refl
