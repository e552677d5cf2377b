-- Steps of the text of a list, by bytes and by blocks.
use Rattle.std.proofs.Common.{◌≡◌, ℕ, List, [], ◌∷◌, ◌++◌, ◌+◌, ◌*◌, ◌/◌, ◌%◌, ◌<◌, length, get_or, take, refl, arith, Bool}
use Rattle.std.proofs.Common.{zero-add, ◌≤◌, drop, sym, ap, ◌∙◌}
use Rattle.std.proofs.Math.ListN.{set, length-take}
use Rattle.std.proofs.lemmas.List.{take_more, length-take, take-append-drop, take-take, take_at}
use Rattle.std.proofs.lemmas.List.Concat.{get_or-flat_map}
use Rattle.std.proofs.lemmas.List.FromFn.{get_or-range_with_len}
use Rattle.std.proofs.lemmas.Grind.{flat_map-append, common_steps}
use Rattle.std.specs.List.{range_with_len}
use Rattle.hex_core.specs.Digit.{digit}
use Rattle.hex_core.specs.Text.{text, digits}
use Rattle.hex_core.specs.inside.Tables.{digits_table}
use Rattle.std.proofs.Math.Seq.{take-add}
use Rattle.std.proofs.lemmas.Simd.{length-chunk, length-put_chunk, take_more_put_chunk}
use lib.Lanes.{chunk, put_chunk}

pub length-text : (upper : Bool) (bytes : List ℕ) → length (text upper bytes) ≡ 2 * length bytes
length-text upper [] = refl
length-text upper (b ∷ bytes) = let e = length-text upper bytes in omega arith

pub text-append : (upper : Bool) (front back : List ℕ) → text upper (front ++ back) ≡ text upper front ++ text upper back
text-append upper front back = flat_map-append (digits upper) front back

pub digits-at : (upper : Bool) (bytes : List ℕ) (i : ℕ) → i < length bytes
    → (get_or (text upper bytes) (2 * i) 0 ≡ digit upper (get_or bytes i 0 / 16)) × (get_or (text upper bytes) (2 * i + 1) 0 ≡ digit upper (get_or bytes i 0 % 16))
digits-at upper bytes i h =
    let size : length (text upper (take i bytes)) ≡ 2 * i = omega (arith, length-text upper (take i bytes), length-take i bytes) in
    let start : length (text upper (take i bytes)) + 0 ≡ 2 * i = omega (arith, size) in
    (rw start at (get_or-flat_map (digits upper) bytes i 0 0 0 h (omega arith)), rw size at (get_or-flat_map (digits upper) bytes i 1 0 0 h (omega arith)))

-- the entries of a byte in the table of all digits
pub digits-entry : (upper : Bool) (b : ℕ) → b < 256 → (get_or (digits_table upper) (2 * b) 0 ≡ digit upper (b / 16)) × (get_or (digits_table upper) (2 * b + 1) 0 ≡ digit upper (b % 16))
unfolding digits_table
digits-entry upper b h =
    let found = digits-at upper (range_with_len 0 256) b h in
    let is = get_or-range_with_len 0 256 b 0 h in
    (rw (is, zero-add b) at found.0, rw (is, zero-add b) at found.1)

take-two-set : (xs : List ℕ) (n a b : ℕ) → n + 1 < length xs → take (n + 2) (set (set xs n a) (n + 1) b) ≡ take n xs ++ a ∷ b ∷ []
take-two-set xs n a b h = grind (arith, common_steps)

-- the next byte's digits are written
pub text-more : (upper : Bool) (table src dst : List ℕ) (i : ℕ) → table ≡ digits_table upper → get_or src i 0 < 256 → i < length src
    → length dst ≡ 2 * length src
    → take (2 * i) dst ≡ text upper (take i src)
    → take (2 * (i + 1)) (set (set dst (2 * i) (get_or table (2 * get_or src i 0) 0)) (2 * i + 1) (get_or table (2 * get_or src i 0 + 1) 0)) ≡ text upper (take (i + 1) src)
text-more upper table src dst i is byte h len front =
    let b = get_or src i 0 in
    let two : 2 * (i + 1) ≡ 2 * i + 2 = omega arith in
    rw (
      two,
      is,
      (digits-entry upper b byte).0,
      (digits-entry upper b byte).1,
      take-two-set dst (2 * i) (digit upper (b / 16)) (digit upper (b % 16))
          (omega arith),
      front,
      take_more src i 0 h,
      text-append upper (take i src) (b ∷ []),
    ) refl

-- ---- the text of a source, written block by block

text_take : (upper : Bool) (v : List ℕ) (k : ℕ) → k ≤ length v → take (2 * k) (text upper v) ≡ text upper (take k v)
text_take upper v k h =
    ap (λ l. take (2 * k) (text upper l)) (sym (take-append-drop k v)) ∙ ap (take (2 * k)) (text-append upper (take k v) (drop k v))
    ∙ take_at (text upper (take k v)) (text upper (drop k v)) (2 * k) (length-text upper (take k v) ∙ omega (arith, length-take k v))

-- the text of the first n bytes is written
pub record Written (upper : Bool) (src dst : List ℕ) (n : ℕ) : Type 0 where
  pub long : length dst ≡ 2 * length src
  pub front : take (2 * n) dst ≡ text upper (take n src)

-- at first that of none, and at last all of it
pub written-none : (upper : Bool) (src dst : List ℕ) → length dst ≡ 2 * length src → Written upper src dst 0
written-none upper src dst long = record { long = long; front = refl }

pub written-all : {upper : Bool} {src dst : List ℕ} (n : ℕ) → n ≡ length src → Written upper src dst n → dst ≡ text upper src
written-all {upper} {src} {dst} n whole so_far = grind (arith, common_steps)

-- then that of the w bytes from i on, which begin among those or behind them
pub written-more : {upper : Bool} {src dst : List ℕ} {n : ℕ} (i w m at : ℕ) → i ≤ n → m ≡ i + w → m ≤ length src → at ≡ 2 * i
    → Written upper src dst n → Written upper src (put_chunk at dst (text upper (chunk i w src))) m
written-more {upper} {src} {dst} {n} i w m at le e room p so_far =
    let block = text upper (chunk i w src) in
    let long : length block ≡ 2 * w = omega (arith, length-text upper (chunk i w src), length-chunk i w src (omega arith)) in
    let before : take at dst ≡ text upper (take i src) =
    sym (take-take at (2 * n) dst (omega arith)) ∙ ap (take at) so_far.front ∙ ap (λ k. take k (text upper (take n src))) p
    ∙ text_take upper (take n src) i (omega (arith, length-take n src)) ∙ ap (text upper) (take-take i n src le) in
    record {
      long = length-put_chunk at dst block ∙ so_far.long;
      front = rw (take_more_put_chunk at dst block (2 * m) (omega (arith, long)) (omega (arith, so_far.long)), before, e, take-add i w src) (sym (text-append upper (take i src) (chunk i w src)));
    }

-- one block of all bytes is their text
pub one_block : (upper : Bool) (src dst : List ℕ) (n : ℕ) → n ≡ length src → length dst ≡ 2 * length src → put_chunk 0 dst (text upper (chunk 0 n src)) ≡ text upper src
one_block upper src dst n whole long =
    written-all n whole (written-more 0 n n 0 (omega arith) (omega arith) (omega (arith, whole)) refl (written-none upper src dst long))
