-- Lengths of grouped texts, and what reading one needs.
use Rattle.std.proofs.Common.{◌≡◌, inl, inr, ℕ, ◌+◌, ◌-◌, ◌*◌, ◌/◌, ◌%◌, ◌<◌, ◌≤◌, ◌==◌, arith, Some, None}
use Rattle.std.proofs.lemmas.Bool.{cases_lt, eq-eqb, eqb-true, ne_eqb}
use Rattle.std.proofs.lemmas.Nat.{div-add-mod', div-mul-add, le-div, mod-mul-add, mod_below}
use Rattle.std.proofs.Math.Nat.{div-le_self, div-mul-le_self, zero-div, zero-mod}
use Rattle.hex_core.proofs.PositionLemmas.{least_is, least_none, least_told}
use Rattle.hex_codec.specs.GroupedWriting.{piece_count}
use Rattle.hex_codec.specs.GroupedReading.{byte_count, grouped_len}

-- some bytes as whole pieces and a last one
pub record Cut (every n : ℕ) : Type 0 where
  pub whole : ℕ
  pub last : ℕ
  pub sum : n ≡ whole * every + last
  pub some : 0 < last
  pub fits : last ≤ every

abbrev pub cut : (every n : ℕ) → 0 < every → 0 < n → Cut every n
cut every n pos some = record {
  whole = (n - 1) / every;
  last = (n - 1) % every + 1;
  sum = omega (arith, div-add-mod' (n - 1) every);
  some = omega arith;
  fits = omega (arith, mod_below (n - 1) every pos);
}

module _ (every : ℕ) where
  -- a product with a part's length
  lines : (whole : ℕ) → whole * (2 * every + 1) ≡ 2 * (whole * every) + whole
  lines whole = grind arith

  count-cut : (whole last : ℕ) → 0 < last → last ≤ every → piece_count every (whole * every + last) ≡ whole + 1
  count-cut whole last some fits = elim (cases_lt last every) [
    | inl h ↦ rw (div-mul-add whole every last h, mod-mul-add whole every last h) (omega arith)
    | inr h ↦
        let e : whole * every + last ≡ (whole + 1) * every + 0 = grind (arith, h, fits) in
        rw (e, div-mul-add (whole + 1) every 0 (omega arith), mod-mul-add (whole + 1) every 0 (omega arith)) (omega arith)
  ]

  -- the length of a text in parts
  pub len-cut : (n : ℕ) (c : Cut every n) → grouped_len every n ≡ c.whole * (2 * every + 1) + 2 * c.last
  len-cut n c =
      let count : piece_count every n ≡ c.whole + 1 = rw c.sum (count-cut c.whole c.last c.some c.fits) in
      omega (arith, count, lines c.whole, c.sum)

  -- the same in closed form
  pub len-closed : (n : ℕ) → 0 < every → grouped_len every n ≡ 2 * n + (n - 1) / every
  len-closed n pos = elim (cases_lt 0 n) [
    | inl h ↦ let c = cut every n pos h in omega (arith, len-cut n c, lines c.whole, c.sum)
    | inr h ↦ let none : n ≡ 0 = omega arith in rw (none, zero-div every, zero-mod every) (omega arith)
  ]

  -- at most three bytes for each, and one fewer
  pub len-most : (n : ℕ) → 0 < every → grouped_len every n ≤ 3 * n - 1
  len-most n pos = omega (arith, len-closed n pos, div-le_self (n - 1) every)

  -- more bytes have a longer text
  pub rising : (k n : ℕ) → 0 < every → k < n → grouped_len every k < grouped_len every n
  rising k n pos h =
      let more : (k - 1) / every ≤ (n - 1) / every = le-div ((k - 1) / every) (n - 1) every pos (omega (arith, div-mul-le_self (k - 1) every)) in
      omega (arith, len-closed k pos, len-closed n pos)

  -- the number of bytes whose text has this length
  pub count-is : (len n : ℕ) → 0 < every → grouped_len every n ≡ len → byte_count every len ≡ Some n
  count-is len n pos is =
      least_is (λ k. grouped_len every k == len) (len + 1) n (omega (arith, len-closed n pos))
      (λ k lt. ne_eqb (grouped_len every k) len (λ e. absurd (omega (arith, rising k n pos lt)))) (eq-eqb (grouped_len every n) len is)

  pub count-none : (len : ℕ) → ((n : ℕ) → grouped_len every n ≡ len → ⊥) → byte_count every len ≡ None
  count-none len never = least_none (λ k. grouped_len every k == len) (len + 1) (λ k lt. ne_eqb (grouped_len every k) len (never k))

  -- what a number of bytes tells of the length
  pub count-told : (len n : ℕ) → byte_count every len ≡ Some n → grouped_len every n ≡ len
  count-told len n e = eqb-true (grouped_len every n) len (least_told (λ k. grouped_len every k == len) (len + 1) n e).here
