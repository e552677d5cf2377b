-- Blocks of a source, and what decoding them makes of a destination.
use Rattle.std.proofs.Common.{◌≡◌, ℕ, zero, suc, [], ◌∷◌, ◌+◌, ◌-◌, ◌*◌, ◌/◌, ◌%◌, ◌<◌, ◌≤◌, ◌↔◌, Bool, false, List, ◌++◌, length}
use Rattle.std.proofs.Common.{length-drop, take, drop, min, get_or, inl, inr, refl, sym, ap, ap₂, subst}
use Rattle.std.proofs.Common.{◌∙◌, Option, Some, None, arith}
use Rattle.std.specs.Prelude.{IfSome, IsSome, IsTrue, slice_index}
use Rattle.std.specs.Int.{div_ceil}
use Rattle.std.proofs.Math.Nat.{div-lt_iff_lt-mul, le-div_iff_mul-le, lt-div-mul-add, lt_of_mul-lt-mul_right, mod-add-div, mul_comm}
use Rattle.std.proofs.lemmas.Bool.{cases_lt, iff_false}
use Rattle.std.proofs.lemmas.Grind.{common_steps, div_ceil_times}
use Rattle.std.proofs.lemmas.List.{get_or-drop, get_or-take, length-take-le, take-append-drop, take_all}
use Rattle.std.proofs.lemmas.Simd.{get_or-chunk, get_or-put_chunk_above, get_or-put_chunk_at, get_or-put_chunk_below}
use Rattle.std.proofs.lemmas.Simd.{length-chunk, length-put_chunk}
use lib.Lanes.{chunk, put_chunk}
use std.Logic.{↔_trans}
use Rattle.hex_core.specs.declared.digit.CheckCase.{CheckCase}
use Rattle.hex_core.specs.inside.Arithmetic.{packed}
use Rattle.hex_core.specs.inside.Blocks.{DecodesRange, NibblesFrom}
use Rattle.hex_core.specs.Digit.{value}
use Rattle.hex_core.specs.Search.{AllValid, covering_to, first_invalid}
use Rattle.hex_core.specs.Lanes.{AreNibbles, AreSmall, AreValues, IsNibble}
use Rattle.hex_core.specs.Text.{Spells}
use Rattle.hex_core.proofs.ByteLemmas.{value_is, value_small}
use Rattle.hex_core.proofs.PairLemmas.{length-packed, packed_at}
use Rattle.hex_core.proofs.SearchLemmas.{first_invalid_none, first_is_first, none_valid, valid_before, valid_misses}
use Rattle.hex_core.proofs.SpellsLemmas.{spelled_along}

-- ---- places of blocks of any width

-- a block before the last whole one is inside
pub block_inside : (len block i : ℕ) → 0 < block → i < len / block → i * block + block ≤ len
block_inside len block i some lt = grind (arith, common_steps)

-- where the whole blocks end: with the source, or less than a block before its end
pub blocks_end : (len block : ℕ) → len % block ≡ 0 → len / block * block ≡ len
blocks_end len block e = mul_comm (len / block) block ∙ omega (arith, mod-add-div len block)

pub blocks_within : (len block i : ℕ) → 0 < block → i ≤ len / block → i * block ≤ len
blocks_within len block i some le = (le-div_iff_mul-le some).0 le

pub blocks_past : (len block : ℕ) → 0 < block → len < len / block * block + block
blocks_past len block some = lt-div-mul-add some

-- the tests that cover a source of whole blocks without an invalid byte
pub covers_whole : (len block : ℕ) (o : Option ℕ) → o ≡ None → len % block ≡ 0 → covering_to block len o ≡ len / block
covers_whole len block (Some f) none whole = cc
covers_whole len block None none whole = omega (arith, whole)

-- ---- ranges that are valid

module _ (c : CheckCase) (s : List ℕ) where
  -- a range, and one that begins inside it or at its end
  pub valid_over : (first middle start end : ℕ) → start ≤ middle → AllValid c s first middle → AllValid c s start end → AllValid c s first end
  valid_over first middle start end le front back k low lt = grind (arith, common_steps)

  -- a range of a source that has no invalid byte
  pub valid_range : (start end : ℕ) → end ≤ length s → first_invalid c s ≡ None → AllValid c s start end
  valid_range start end inside none k low lt = none_valid c s none k (omega arith) (omega arith)

  pub valid_whole : (end : ℕ) → end ≡ length s → AllValid c s 0 end ↔ (first_invalid c s ≡ None)
  valid_whole end all = (λ valid. first_invalid_none c s (rw (← all) valid), valid_range 0 end (omega arith))

  -- whole blocks that are the source
  pub whole_valid : (block : ℕ) → length s % block ≡ 0 → AllValid c s 0 (length s / block * block) → first_invalid c s ≡ None
  whole_valid block e = (valid_whole _ (blocks_end (length s) block e)).0

  -- a last block that overlaps them
  pub last_valid : (block : ℕ) → 0 < block → block ≤ length s → AllValid c s 0 (length s / block * block) → AllValid c s (length s - block) (length s) ↔ (first_invalid c s ≡ None)
  last_valid block some inside front =
      let past = blocks_past (length s) block some in (
        λ back. first_invalid_none c s (valid_over 0 (length s / block * block) (length s - block) (length s) (omega (arith, past)) front back),
        valid_range (length s - block) (length s) (omega arith),
      )

  -- the tests that cover the source end with the block of its first invalid byte
  covers_at : (block i f : ℕ) → 0 < block → f < length s → i * block ≤ f → f < i * block + block → min (div_ceil (length s) block) (f / block + 1) ≡ i + 1
  covers_at block i f some there low high =
      let least : i ≤ f / block = (le-div_iff_mul-le some).1 low in
      let most : f / block < i + 1 = (div-lt_iff_lt-mul some).1 (omega arith) in
      let more : i * block < div_ceil (length s) block * block = omega (arith, (div_ceil_times (length s) block some).0) in
      let inside : i < div_ceil (length s) block = lt_of_mul-lt-mul_right block more in
      omega arith

  -- that is a block that does not pass, or the last one, where the source ends inside it
  pub covers_failed : (block i : ℕ) (o : Option ℕ) → first_invalid c s ≡ o → 0 < block → i * block + block ≤ length s → AllValid c s 0 (i * block) → ¬ AllValid c s (i * block) (i * block + block) → covering_to block (length s) o ≡ i + 1
  covers_failed block i (Some f) e some inside valid fails =
      covers_at block i f some (first_is_first c s f e).0 (valid_misses c s f 0 (i * block) e valid (omega arith)) (elim (cases_lt f (i * block + block)) [
        | inl lt ↦ lt
        | inr past ↦ absurd (fails (λ k a b. valid_before c s f e k (omega arith) (omega arith)))
      ])
  covers_failed block i None e some inside valid fails = absurd (fails (valid_range (i * block) (i * block + block) inside e))

  pub covers_end : (block : ℕ) (o : Option ℕ) → first_invalid c s ≡ o → 0 < block → 0 < length s % block → AllValid c s 0 (length s / block * block) → covering_to block (length s) o ≡ length s / block + 1
  covers_end block (Some f) e some rest valid =
      let there = (first_is_first c s f e).0 in
      covers_at block (length s / block) f some there (valid_misses c s f 0 (length s / block * block) e valid (omega arith)) (omega (arith, blocks_past (length s) block some))
  covers_end block None e some rest valid = omega arith

  -- a range behind a valid front is valid exactly where all of it is
  pub behind_valid : (done end : ℕ) → done ≤ end → AllValid c s 0 done → AllValid c s done end ↔ AllValid c s 0 end
  behind_valid done end le front = (valid_over 0 done done end (omega arith) front, λ all k low lt. all k (omega arith) lt)

  -- where a part fails its test, the source has an invalid byte
  pub part_fails : {t : Bool} (start end : ℕ) → end ≤ length s → IsTrue t ↔ AllValid c s start end → t ≡ false → IsTrue false ↔ (first_invalid c s ≡ None)
  part_fails start end inside test fails = (λ x. cc, λ none. absurd (iff_false test fails (valid_range start end inside none)))

  -- one test of two parts that cover a range
  pub both_valid : {P Q R : Type 0} (start middle at last end : ℕ) → R ↔ (P × Q) → P ↔ AllValid c s start middle → Q ↔ AllValid c s at last
      → last ≡ end → start ≤ at → at ≤ middle → middle ≤ end → R ↔ AllValid c s start end
  both_valid start middle at last end both front back same low le inside = (
    λ r k least lt. valid_over start middle at last le (front.0 (both.0 r).0) (back.0 (both.0 r).1) k least (omega arith),
    λ valid. both.1 (front.1 (λ k least lt. valid k least (omega arith)), back.1 (λ k least lt. valid k (omega arith) (omega arith))),
  )

  -- the same of two that are the source
  pub parts_tested : {P Q R T : Type 0} (middle at last : ℕ) → T ↔ R → R ↔ (P × Q) → P ↔ AllValid c s 0 middle → Q ↔ AllValid c s at last
      → last ≡ length s → at ≤ middle → middle ≤ length s → T ↔ (first_invalid c s ≡ None)
  parts_tested middle at last test both front back same le inside =
      ↔_trans test (↔_trans (both_valid 0 middle at last (length s) both front back same (omega arith) le inside) (valid_whole (length s) refl))

-- ---- the lanes of a block

pub valid_chunk : (c : CheckCase) (s : List ℕ) (at n end : ℕ) → end ≡ at + n → end ≤ length s → AllValid c (chunk at n s) 0 n ↔ AllValid c s at end
valid_chunk c s at n end all inside = (
  λ valid k low lt. subst (λ b. IsSome (value c b)) (get_or-chunk at n s (k - at) 0 (omega arith) ∙ ap (slice_index s) (omega arith)) (valid (k - at) (omega arith) (omega arith)),
  λ valid k low lt. subst (λ b. IsSome (value c b)) (sym (get_or-chunk at n s k 0 lt)) (valid (at + k) (omega arith) (omega arith)),
)

-- nibbles of bytes that have values
pub valid_nibbles_chunk : (c : CheckCase) (s v : List ℕ) (at n : ℕ) → at + n ≤ length s → length v ≡ n → AllValid c s at (at + n) → AreValues c (chunk at n s) v → NibblesFrom c s at n v × AreSmall v
valid_nibbles_chunk c s v at n inside long valid are =
    let lane : (k : ℕ) → k < n → value c (get_or s (at + k) 0) ≡ Some (get_or v k 0) = λ k h.
    let here = subst (λ b. IfSome (value c b) (λ x. get_or v k 0 ≡ x)) (get_or-chunk at n s k 0 h) (are k (omega (arith, length-chunk at n s inside))) in
    value_is (value c (get_or s (at + k) 0)) (get_or v k 0) (valid (at + k) (omega arith) (omega arith)) here in
    (record { long = long; each = λ k h. subst (λ o. IsNibble o (get_or v k 0)) (sym (lane k h)) refl }, λ k h. value_small c (get_or s (at + k) 0) (get_or v k 0) (lane k (omega arith)))

-- all nibbles of a block are below 16 exactly where it is valid
digit_of : (o : Option ℕ) (n : ℕ) → IsNibble o n → n < 16 → o ≡ Some n
digit_of (Some v) n e small = ap Some (sym e)
digit_of None n e small = absurd (omega arith)

small_of : (c : CheckCase) (b n : ℕ) (o : Option ℕ) → value c b ≡ o → IsNibble o n → IsSome o → n < 16
small_of c b n (Some v) is e s = let small : v < 16 = value_small c b v is in omega arith
small_of c b n None is e s = cc

pub small_valid : {c : CheckCase} {s v : List ℕ} {at n : ℕ} (end : ℕ) → NibblesFrom c s at n v → end ≡ at + n → AreSmall v ↔ AllValid c s at end
small_valid {c} {s} {v} {at} {n} end are all = (
  λ small k low lt.
      let j = k - at in
      let there : at + j ≡ k = omega arith in
      subst (λ i. IsSome (value c (get_or s i 0))) there (rw (digit_of _ (get_or v j 0) (are.each j (omega arith)) (small j (omega (arith, are.long)))) refl),
  λ valid k h. small_of c (get_or s (at + k) 0) (get_or v k 0) _ refl (are.each k (omega (arith, are.long))) (valid (at + k) (omega arith) (omega (arith, are.long))),
)

-- one test of two blocks that cover a range
pub pair_valid : {R : Type 0} {c : CheckCase} {s f b : List ℕ} {start at n : ℕ} (end : ℕ) → R ↔ (AreSmall f × AreSmall b) → NibblesFrom c s start n f → NibblesFrom c s at n b
    → end ≡ at + n → start ≤ at → at ≤ start + n → R ↔ AllValid c s start end
pair_valid {R} {c} {s} {f} {b} {start} {at} {n} end both front back all low le =
    both_valid c s start (start + n) at end end both (small_valid (start + n) front refl) (small_valid end back all) refl low le (omega arith)

-- one test of two blocks, or of two pairs of blocks, which are a source
pub pair_tested : {R T : Type 0} {c : CheckCase} {s f b : List ℕ} {at n : ℕ} → T ↔ R → R ↔ (AreSmall f × AreSmall b) → NibblesFrom c s 0 n f → NibblesFrom c s at n b
    → length s ≡ at + n → at ≤ n → T ↔ (first_invalid c s ≡ None)
pair_tested {R} {T} {c} {s} {f} {b} {at} {n} test both front back whole le =
    parts_tested c s n at (length s) test both (small_valid n front (omega arith)) (small_valid (length s) back whole) refl le (omega arith)

pub pairs_tested : {P Q R T : Type 0} {c : CheckCase} {s f b g d : List ℕ} {from at n : ℕ} → T ↔ R → R ↔ (P × Q) → P ↔ (AreSmall f × AreSmall b) → Q ↔ (AreSmall g × AreSmall d)
    → NibblesFrom c s 0 n f → NibblesFrom c s n n b → NibblesFrom c s from n g → NibblesFrom c s at n d → at ≡ from + n → length s ≡ at + n → from ≤ n + n → T ↔ (first_invalid c s ≡ None)
pairs_tested {P} {Q} {R} {T} {c} {s} {f} {b} {g} {d} {from} {at} {n} test both front back one two three four next whole le =
    let first = pair_valid (n + n) front one two refl (omega arith) (omega arith) in
    let last = pair_valid (length s) back three four whole (omega arith) (omega arith) in
    parts_tested c s (n + n) from (length s) test both first last refl le (omega arith)

-- ---- both ends of a source in one vector

-- all lanes are small exactly where the first n are, and those behind them
pub small_parts : (n : ℕ) (v : List ℕ) → n ≤ length v → AreSmall v ↔ (AreSmall (take n v) × AreSmall (drop n v))
small_parts n v le =
    let front = length-take-le n v le in let back = length-drop n v in (
      λ all. (λ i h. rw (get_or-take n v i 0 (omega arith)) (all i (omega arith)), λ i h. rw (get_or-drop n v i 0) (all (n + i) (omega arith))),
      λ both i h. elim (cases_lt i n) [
        | inl lt ↦ rw (← get_or-take n v i 0 lt) (both.0 i (omega arith))
        | inr past ↦ let j = i - n in let place : i ≡ n + j = omega arith in rw (place, ← get_or-drop n v j 0) (both.1 j (omega arith))
      ],
    )

-- the nibbles of n bytes of each end
pub ends_nibbles : {c : CheckCase} {s v : List ℕ} (old r : List ℕ) (at n : ℕ) → v ≡ put_chunk n (put_chunk 0 old (chunk 0 n s)) (chunk at n s) → length old ≡ n + n → AreNibbles c v r → length r ≡ n + n → at + n ≤ length s
    → NibblesFrom c s 0 n (take n r) × NibblesFrom c s at n (drop n r)
ends_nibbles {c} {s} {v} old r at n is room are long inside =
    let f = chunk 0 n s in let b = chunk at n s in let mid = put_chunk 0 old f in
    let one : length f ≡ n = length-chunk 0 n s (omega arith) in let two = length-chunk at n s inside in let same = length-put_chunk 0 old f in
    let both : length v ≡ n + n = ap length is ∙ length-put_chunk n mid b ∙ same ∙ room in
    let lane : (i j : ℕ) → get_or (put_chunk n mid b) i 0 ≡ get_or s j 0 → i < n + n → IsNibble (value c (get_or s j 0)) (get_or r i 0) = λ i j read lt.
    rw (← read, ← is) (are i (omega (arith, both, lt))) in (
      record {
        long = length-take-le n r (omega arith);
        each = λ k lt. let same : k ≡ 0 + k = omega arith in rw (get_or-take n r k 0 lt) (lane k (0 + k) (get_or-put_chunk_below n mid b k 0 lt ∙ ap (λ i. get_or mid i 0) same ∙ get_or-put_chunk_at 0 old f k 0 (omega arith) (omega arith) ∙ get_or-chunk 0 n s k 0 lt) (omega arith));
      },
      record {
        long = length-drop n r ∙ omega arith;
        each = λ k lt. rw (get_or-drop n r k 0) (lane (n + k) (at + k) (get_or-put_chunk_at n mid b k 0 (omega arith) (omega arith) ∙ get_or-chunk at n s k 0 lt) (omega arith));
      },
    )

-- nibbles of bytes that have values
pub valid_values : (c : CheckCase) (v r : List ℕ) (n : ℕ) → n ≡ length v → AllValid c v 0 n → AreValues c v r → length r ≡ n → AreNibbles c v r × AreSmall r
valid_values c v r n all valid are long =
    let lane : (k : ℕ) → k < length v → value c (get_or v k 0) ≡ Some (get_or r k 0) = λ k h. value_is (value c (get_or v k 0)) (get_or r k 0) (valid k (omega arith) (omega arith)) (are k h) in
    (λ k h. subst (λ o. IsNibble o (get_or r k 0)) (sym (lane k h)) refl, λ k h. value_small c (get_or v k 0) (get_or r k 0) (lane k (omega arith)))

-- both ends of a source that has no invalid byte
pub ends_valid : (c : CheckCase) (s old v : List ℕ) (at n : ℕ) → v ≡ put_chunk n (put_chunk 0 old (chunk 0 n s)) (chunk at n s) → length old ≡ n + n → at + n ≤ length s → first_invalid c s ≡ None → AllValid c v 0 (n + n) × (length v ≡ n + n)
ends_valid c s old v at n is room inside none =
    let f = chunk 0 n s in let b = chunk at n s in let mid = put_chunk 0 old f in
    let one : length f ≡ n = length-chunk 0 n s (omega arith) in let two = length-chunk at n s inside in let same = length-put_chunk 0 old f in
    let digit : (k b : ℕ) → k < length s → b ≡ get_or s k 0 → IsSome (value c b) = λ k b lt e. rw e (none_valid c s none k (omega arith) lt) in (
      λ k low lt. rw is (elim (cases_lt k n) [
        | inl first ↦ let here : k ≡ 0 + k = omega arith in
            digit (0 + k) _ (omega arith) (get_or-put_chunk_below n mid b k 0 first ∙ ap (λ i. get_or mid i 0) here ∙ get_or-put_chunk_at 0 old f k 0 (omega arith) (omega arith) ∙ get_or-chunk 0 n s k 0 first)
        | inr past ↦ let j = k - n in let place : k ≡ n + j = omega arith in
            digit (at + j) _ (omega arith) (ap (λ i. get_or (put_chunk n mid b) i 0) place ∙ get_or-put_chunk_at n mid b j 0 (omega arith) (omega arith) ∙ get_or-chunk at n s j 0 (omega arith))
      ]),
      ap length is ∙ length-put_chunk n mid b ∙ same ∙ room,
    )

-- ---- a block that is decoded

-- two blocks that are written one behind the other, at once or in turn, of which the first has n bytes
pub put_two : (at : ℕ) (old f b : List ℕ) (n : ℕ) → length f ≡ n → put_chunk at old (f ++ b) ≡ put_chunk (at + n) (put_chunk at old f) b
put_two at [] f b n e = refl
put_two zero (x ∷ xs) [] b n e = rw (← e) refl
put_two zero (x ∷ xs) (y ∷ f) b n e =
    let next : 0 + suc (length f) ≡ suc (0 + length f) = omega arith in
    rw (← e, next) (ap (λ l. y ∷ l) (put_two 0 xs f b (length f) refl))
put_two (suc at) (x ∷ xs) f b n e =
    let next : suc at + length f ≡ suc (at + length f) = omega arith in
    rw (← e, next) (ap (λ l. x ∷ l) (put_two at xs f b (length f) refl))

-- two halves of a text, put one behind the other
pub put_halves : (n at : ℕ) (old : List ℕ) {t text : List ℕ} → t ≡ text → length t ≡ 2 * n → put_chunk (at + n) (put_chunk at old (chunk 0 n t)) (chunk n n t) ≡ put_chunk at old text
put_halves n at old {t} is long =
    let both : chunk 0 n t ++ chunk n n t ≡ t = ap (λ r. chunk 0 n t ++ r) (take_all n (drop n t) (omega (arith, length-drop n t, long))) ∙ take-append-drop n t in
    sym (put_two at old (chunk 0 n t) (chunk n n t) n (length-chunk 0 n t (omega (arith, long)))) ∙ ap (λ l. put_chunk at old l) (both ∙ is)

pub block_decodes : {c : CheckCase} {s old new v : List ℕ} {at from end n : ℕ} (w : ℕ) → NibblesFrom c s from n v → AreSmall v → new ≡ put_chunk at old (packed v)
    → n ≡ 2 * w → from ≡ 2 * at → end ≡ at + w → end ≤ length old → DecodesRange c s old new at end
block_decodes {c} {s} {old} {new} {v} {at} {from} {end} {n} w are small is even twice whole room =
    let long : length v ≡ n = are.long in
    let all : length (packed v) ≡ w = omega (arith, length-packed v) in
    let digit : (i m : ℕ) → from + i ≡ m → i < n → value c (get_or s m 0) ≡ Some (get_or v i 0) = λ i m place h.
    rw (← place) (digit_of _ (get_or v i 0) (are.each i h) (small i (omega arith))) in
    record {
      decoded = λ k low lt.
          let j = k - at in
          let place : at + j ≡ k = omega arith in
          let byte : get_or new k 0 ≡ 16 * get_or v (2 * j) 0 + get_or v (2 * j + 1) 0 =
          ap₂ (λ l i. get_or l i 0) is (sym place) ∙ get_or-put_chunk_at at old (packed v) j 0 (omega arith) (omega arith) ∙ packed_at v j (omega arith) in
          let first : get_or v (2 * j) 0 < 16 = small (2 * j) (omega arith) in
          let second : get_or v (2 * j + 1) 0 < 16 = small (2 * j + 1) (omega arith) in
          record {
            high = digit (2 * j) (2 * k) (omega arith) (omega arith) ∙ ap Some (omega arith);
            low = digit (2 * j + 1) (2 * k + 1) (omega arith) (omega arith) ∙ ap Some (omega arith);
          };
      before = λ k lt. ap (λ l. get_or l k 0) is ∙ get_or-put_chunk_below at old (packed v) k 0 lt;
      behind = λ k le. ap (λ l. get_or l k 0) is ∙ get_or-put_chunk_above at old (packed v) k 0 (omega arith);
    }

-- ---- ranges that are decoded one after the other

-- a range, and one that begins inside it or at its end
pub decodes_over : {c : CheckCase} {s old mid new : List ℕ} {first middle start end : ℕ} → DecodesRange c s old mid first middle → DecodesRange c s mid new start end
    → first ≤ start → start ≤ middle → middle ≤ end → DecodesRange c s old new first end
decodes_over {c} {s} {old} {mid} {new} {first} {middle} {start} one two from le to = record {
  decoded = λ k low lt.
      elim (cases_lt k start) [
        | inl before ↦ spelled_along (one.decoded k low (omega arith)) refl refl (two.before k before)
        | inr past ↦ two.decoded k past lt
      ];
  before = λ k lt. two.before k (omega arith) ∙ one.before k lt;
  behind = λ k h. two.behind k h ∙ one.behind k (omega arith);
}

pub decodes_whole : {c : CheckCase} {s old new : List ℕ} {n : ℕ} → DecodesRange c s old new 0 n → n ≡ length new → length s ≡ 2 * length new → Spells c s new
decodes_whole all is twice = record { twice = twice; each = λ i h. all.decoded i (omega arith) (omega arith) }

-- one more block of w bytes behind the first i
pub decodes_next : {c : CheckCase} {s old mid new : List ℕ} (i w : ℕ) → DecodesRange c s old mid 0 (i * w) → DecodesRange c s mid new (i * w) (i * w + w) → DecodesRange c s old new 0 ((i + 1) * w)
decodes_next {c} {s} {old} {mid} {new} i w front block = subst (DecodesRange c s old new 0) (omega arith) (decodes_over front block (omega arith) (omega arith) (omega arith))

-- two blocks of n nibbles, one at each end of a range
pub pair_decodes : {c : CheckCase} {s old new f b : List ℕ} {start low from end n : ℕ} (at w : ℕ) → NibblesFrom c s low n f → NibblesFrom c s from n b → AreSmall f × AreSmall b
    → new ≡ put_chunk at (put_chunk start old (packed f)) (packed b) → n ≡ 2 * w → low ≡ 2 * start → from ≡ 2 * at → end ≡ at + w → start ≤ at → at ≤ start + w → end ≤ length old
    → DecodesRange c s old new start end
pair_decodes {c} {s} {old} {new} {f} {b} {start} {low} {from} {end} at w front back small is even first second whole least le room =
    let mid = put_chunk start old (packed f) in
    let same : length mid ≡ length old = length-put_chunk start old (packed f) in
    let one : DecodesRange c s old mid start (start + w) = block_decodes w front small.0 refl even first refl (omega arith) in
    let two : DecodesRange c s mid new at end = block_decodes w back small.1 is even second whole (omega arith) in
    decodes_over one two least le (omega arith)
