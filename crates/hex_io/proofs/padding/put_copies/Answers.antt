-- Blocks of copies, and then a part of a block, are all the copies.
use Rattle.std.proofs.Common.{◌≡◌, ℕ, zero, suc, ◌+◌, ◌*◌, ◌%◌, ◌-◌, ◌≤◌, List, ◌++◌, length, take, encode_utf8, arith, append_assoc, refl}
use Rattle.std.specs.List.{repeat}
use Rattle.std.proofs.Concat.{length-repeat}
use Rattle.std.proofs.Math.Seq.{take-append_seam}
use Rattle.hex_io.proofs.PutsLemmas.{Puts-stop, Puts-then, Takes-then}
use Rattle.hex_io.proofs.padding.put_copies.Goals as goal

-- some copies, and then some more
repeat-add : (n m : ℕ) (xs : List ℕ) → repeat (n + m) xs ≡ repeat n xs ++ repeat m xs
repeat-add zero m xs = grind arith
repeat-add (suc n) m xs = let e : suc n + m ≡ suc (n + m) = omega arith in rw (e, repeat-add n m xs, append_assoc)

-- the first of some copies
first-copies : (k n : ℕ) (xs : List ℕ) → k ≤ n → take (k * length xs) (repeat n xs) ≡ repeat k xs
first-copies k n xs few =
    let parts : n ≡ k + (n - k) = omega arith in rw (parts, repeat-add k (n - k) xs, ← length-repeat k xs) (take-append_seam (repeat k xs) (repeat (n - k) xs))

pub returns-in_err-put_all : goal.returns-in_err-put_all
returns-in_err-put_all g c =
    let i = c.full.counter in let rest = c.args.count - 64 * i - 64 in
    let parts : c.args.count ≡ 64 * i + (64 + rest) = omega arith in let whole : c.min.result ≡ 64 = omega arith in
    rw (parts, repeat-add (64 * i) (64 + rest), repeat-add 64 rest)
    (Puts-then _ _ _ _ _ _ c.full.invariant (Puts-stop _ _ c.from_residual.ensures.0 (rw (c.copies_in-block.ensures, whole) at c.in_err-put_all.ensures.puts)))

pub full-preserved : goal.full-preserved
full-preserved g c =
    let next : 64 * (c.full.counter + 1) ≡ 64 * c.full.counter + 64 = omega arith in let whole : c.min.result ≡ 64 = omega arith in
    rw (next, repeat-add) (Takes-then _ _ _ _ _ c.full.invariant (rw (c.copies_in-block.ensures, whole) at c.in_ok-put_all.ensures.puts))

pub slice_bounds-put_all-end : goal.slice_bounds-put_all-end
slice_bounds-put_all-end g c =
    let few : c.args.count % 64 ≤ c.min.result = omega arith in
    rw (c.copies_in-block.ensures, c.len_utf8.ensures.len, first-copies (c.args.count % 64) c.min.result (encode_utf8 c.args.fill) few, length-repeat) refl

pub returns : goal.returns
returns g c =
    let parts : c.args.count ≡ 64 * c.full.counter + c.args.count % 64 = omega arith in let few : c.args.count % 64 ≤ c.min.result = omega arith in
    rw (parts, repeat-add) (Puts-then _ _ _ _ _ _ c.full.invariant (rw (c.copies_in-block.ensures, c.len_utf8.ensures.len, first-copies (c.args.count % 64) c.min.result (encode_utf8 c.args.fill) few) at c.put_all-2.ensures.puts))
