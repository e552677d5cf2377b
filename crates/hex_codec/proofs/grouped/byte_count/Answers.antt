-- A length is that of some whole parts and a last piece.
use Rattle.std.proofs.Common.{◌≡◌, ap, sym, refl, ◌∙◌, ℕ, ◌+◌, ◌-◌, ◌*◌, ◌/◌, ◌%◌, ◌<◌, arith}
use Rattle.std.proofs.Math.Nat.{div-eq_of_lt, div-le_self, mod-eq_of_lt}
use Rattle.std.proofs.lemmas.Nat.{div-add-mod', mod-mul-add, mod_below}
use Rattle.hex_codec.specs.GroupedReading.{grouped_len}
use Rattle.hex_codec.proofs.CountLemmas.{Cut, count-is, count-none, cut, len-closed, len-cut}
use Rattle.hex_codec.proofs.grouped.byte_count.Goals as goal
use Rattle.hex_codec.proofs.grouped.byte_count.Goals.{then-last-eq0-via-then-last-eq0, then-last-eq0-via-else-last-eq0+then-last-eq1}

-- behind the whole parts of a text stand two digits for each byte of the last piece
last-digits : (every len n : ℕ) → 0 < every → 0 < len → grouped_len every n ≡ len → (h : ℕ) × (0 < h) × (len % (2 * every + 1) ≡ 2 * h)
last-digits every len n pos long is =
    let c = cut every n pos (omega (arith, len-closed every n pos, div-le_self (n - 1) every)) in
    let left = mod-mul-add c.whole (2 * every + 1) (2 * c.last) (omega (arith, c.fits)) in
    (c.last, c.some, ap (λ k. k % (2 * every + 1)) (sym is ∙ len-cut every n c) ∙ left)

pub returns-then-len-eq0 : goal.returns-then-len-eq0
returns-then-len-eq0 c =
    let none = div-eq_of_lt {n = c.args.len / 2 - 1} {m = c.args.every} (omega (arith, c.requires, c.if-every-len.true)) in
    sym (count-is c.args.every c.args.len _ c.requires (omega (arith, len-closed c.args.every (c.args.len / 2) c.requires, none, c.if-len-eq0.true)))

pub returns-else-len-eq0 : goal.returns-else-len-eq0
returns-else-len-eq0 c = sym (count-none c.args.every c.args.len (λ n is.
    let last = last-digits c.args.every c.args.len n c.requires (omega (arith, c.if-len-eq0.false)) is in
    let whole = mod-eq_of_lt {n = c.args.len} {m = 2 * c.args.every + 1} (omega (arith, c.if-every-len.true)) in
    absurd (omega (arith, last.2, whole, c.if-len-eq0.false))))

pub returns-then-last-eq0 : goal.returns-then-last-eq0
returns-then-last-eq0 c = sym (count-none c.args.every c.args.len (λ n is.
    let last = last-digits c.args.every c.args.len n c.requires (omega (arith, c.requires, c.if-every-len.false)) is in
    elim c.then-last-eq0.branch [
      | then-last-eq0-via-then-last-eq0 w ↦ absurd (omega (arith, last.1, last.2, w.if-last-eq0.true))
      | then-last-eq0-via-else-last-eq0+then-last-eq1 w ↦ absurd (omega (arith, last.2, w.if-last-eq1.true))
    ]))

pub returns : goal.returns
returns c =
    let len = c.args.len in
    let every = c.args.every in
    let last = len % (2 * every + 1) in
    let n = len / (2 * every + 1) * every + last / 2 in
    let below = mod_below len (2 * every + 1) (omega arith) in
    let some : 0 < last / 2 = omega (arith, c.if-last-eq0.false, c.if-last-eq1.false) in
    let parts : Cut every n = record { whole = len / (2 * every + 1); last = last / 2; sum = refl; some = some; fits = omega (arith, below) } in
    let even : 2 * (last / 2) ≡ last = omega (arith, c.if-last-eq1.false) in
    sym (count-is every len n c.requires (len-cut every n parts ∙ omega (arith, even, div-add-mod' len (2 * every + 1))))
