-- Runs of bytes between spaces, by a mask of what is a space or less.
use Rattle.std.proofs.Common.{◌≡◌, ◌∙◌, ap, sym, refl, arith, not, ℕ, suc, zero, ◌+◌, ◌-◌, ◌/◌, ◌^◌, ◌<◌, ◌≤◌, Bool, true, false, leb, w8}
use Rattle.std.proofs.Common.{List, [], ◌∷◌, ◌++◌, length, take, drop, map, get_or, append-nil, cond}
use Rattle.std.specs.Prelude.{nat_le}
use Rattle.std.specs.List.{prefix_len}
use Rattle.std.specs.Simd.Lanes.{chunk, mask_l, put_chunk}
use Rattle.std.proofs.lemmas.Bool.Decides.{nat_tests}
use Rattle.std.proofs.Math.Seq.{take-add, take-append-add, take-take}
use Rattle.std.proofs.lemmas.List.{drop-drop, drop-map, drop-take, length-take-le, take-append-le, take_all, take_more}
use Rattle.std.proofs.lemmas.List.Elements.{filter-append, filter_more}
use Rattle.std.proofs.lemmas.Nat.{shr-shr}
use Rattle.std.proofs.lemmas.Simd.{get_or-chunk, leading_from_mask_l, length-chunk, put_chunk_is, trailing_mask_l, bitmask_splat, length-put_chunk}
use lib.Count.{count_trailing_zeros}
use mir.Val.{bool_byte}
use Rattle.hex_codec.specs.Spaced.{is_solid, unspaced}
use Rattle.hex_io.specs.inside.{HasCopied}
use Rattle.hex_io.proofs.stream.unspaced.copy_runs.Goals as goal

-- a byte that is a space or less, as all white space is
abbrev low : ℕ → Bool
low b = nat_le b 32

high-solid : (b : ℕ) → low b ≡ false → is_solid b ≡ true
high-solid b is = grind (arith, nat_tests, is)

-- how many bytes come before the first low one
abbrev run_of : List ℕ → ℕ
run_of xs = prefix_len (λ b. not (low b)) xs

-- those are kept
run-kept : (xs : List ℕ) → unspaced (take (run_of xs) xs) ≡ take (run_of xs) xs
run-kept [] = refl
run-kept (b ∷ xs) = by_first (low b) refl (run-kept xs)
  where
    by_first : (t : Bool) → low b ≡ t → unspaced (take (run_of xs) xs) ≡ take (run_of xs) xs → unspaced (take (run_of (b ∷ xs)) (b ∷ xs)) ≡ take (run_of (b ∷ xs)) (b ∷ xs)
    by_first true is rest = rw is refl
    by_first false is rest = let kept = high-solid b is in let next : 1 + run_of xs ≡ suc (run_of xs) = omega arith in rw (is, next, kept, rest) refl

-- and the low one behind them if it is no white space
run-next : (xs : List ℕ) (run : ℕ) → run ≡ run_of xs → run < length xs
    → unspaced (take (run + 1) xs) ≡ take (run + bool_byte (is_solid (get_or xs run 0))) xs
run-next xs run is inside = filter_more is_solid xs run 0 inside ∙ by_kept (is_solid (get_or xs run 0))
  where
    kept : unspaced (take run xs) ≡ take run xs
    kept = rw is (run-kept xs)

    by_kept : (t : Bool) → unspaced (take run xs) ++ cond t (get_or xs run 0 ∷ []) [] ≡ take (run + bool_byte t) xs
    by_kept true = rw kept (sym (take_more xs run 0 inside))
    by_kept false = let same : run + 0 ≡ run = omega arith in rw (kept, same) (append-nil (take run xs))

-- a mask shifted is that of the bytes behind
mask-shifted : (ms : List Bool) (k : ℕ) → mask_l ms / 2 ^ k ≡ mask_l (drop k ms)
mask-shifted ms zero = omega arith
mask-shifted [] (suc k) = omega arith
mask-shifted (m ∷ ms) (suc k) =
    let half : mask_l (m ∷ ms) / 2 ^ 1 ≡ mask_l ms = by_bit m in let next : 1 + k ≡ suc k = omega arith in
    sym (rw next at (shr-shr (mask_l (m ∷ ms)) 1 k)) ∙ ap (λ n. n / 2 ^ k) half ∙ mask-shifted ms k
  where
    by_bit : (t : Bool) → mask_l (t ∷ ms) / 2 ≡ mask_l ms
    by_bit true = omega arith
    by_bit false = omega arith

-- a byte that is marked is there
run-inside : (xs : List ℕ) → 0 < mask_l (map low xs) → run_of xs < length xs
run-inside [] some = absurd (omega arith)
run-inside (b ∷ xs) some = by_first (low b) refl (run-inside xs)
  where
    by_first : (t : Bool) → low b ≡ t → (0 < mask_l (map low xs) → run_of xs < length xs) → run_of (b ∷ xs) < length (b ∷ xs)
    by_first true is rest = rw is (omega arith)
    by_first false is rest = let more = rest (omega (arith, rw is at some)) in rw is (omega (arith, more))

-- the mask of a part of a chunk
mask-behind : (s : List ℕ) (at n k : ℕ) → k ≤ n → mask_l (map low (chunk at n s)) / 2 ^ k ≡ mask_l (map low (chunk (at + k) (n - k) s))
mask-behind s at n k le =
    let parts : k + (n - k) ≡ n = omega arith in
    mask-shifted (map low (chunk at n s)) k ∙ ap mask_l (drop-map low k (chunk at n s))
    ∙ ap (λ l. mask_l (map low l)) (rw parts at (drop-take k (n - k) (drop at s)) ∙ ap (take (n - k)) (drop-drop k at s))

-- of a chunk that is copied behind what was, the bytes that are kept of its front
copied : (s block : List ℕ) (at count more k : ℕ) → HasCopied s at block count → at + 32 ≤ length s → length s ≤ length block → k ≤ more → more ≤ 32
    → unspaced (chunk at more s) ≡ chunk at k s → HasCopied s (at + more) (put_chunk count block (chunk at 32 s)) (count + k)
copied s block at count more k before inside room least most kept = (
  omega (arith, before.0),
  ap (take (count + k)) (put_chunk_is count block new (omega (arith, long, before.0)))
      ∙ rw had at (take-append-add (take count block) (new ++ rest) k)
      ∙ ap (λ l. take count block ++ l) (take-append-le k new rest (omega (arith, long)) ∙ take-take k 32 (drop at s) (omega arith))
      ∙ rw (before.1, ← kept) (sym (filter-append is_solid (take at s) (chunk at more s)))
      ∙ ap unspaced (sym (take-add at more s)),
)
  where
    new : List ℕ
    new = chunk at 32 s

    long : length new ≡ 32
    long = length-chunk at 32 s inside

    rest : List ℕ
    rest = drop (length new) (drop count block)

    had : length (take count block) ≡ count
    had = length-take-le count block (omega (arith, before.0))

module _ (s block : List ℕ) (at count n : ℕ) (before : HasCopied s at block count) (inside : at + 32 ≤ length s) (room : length s ≤ length block) (few : n ≤ 32) where
  -- a run and the byte behind it
  run-copied : (run : ℕ) → run ≡ run_of (chunk at n s) → run < n
      → HasCopied s (at + (run + 1)) (put_chunk count block (chunk at 32 s)) (count + (run + bool_byte (is_solid (get_or s (at + run) 0))))
  run-copied run is lt = by_kept (is_solid (get_or s (at + run) 0)) (rw byte at (run-next (chunk at n s) run is (omega (arith, long, lt))))
    where
      long : length (chunk at n s) ≡ n
      long = length-chunk at n s (omega arith)

      byte : get_or (chunk at n s) run 0 ≡ get_or s (at + run) 0
      byte = get_or-chunk at n s run 0 lt

      part : (k : ℕ) → k ≤ n → take k (chunk at n s) ≡ chunk at k s
      part k le = take-take k n (drop at s) le

      by_kept : (t : Bool) → unspaced (take (run + 1) (chunk at n s)) ≡ take (run + bool_byte t) (chunk at n s)
          → HasCopied s (at + (run + 1)) (put_chunk count block (chunk at 32 s)) (count + (run + bool_byte t))
      by_kept true h = copied s block at count (run + 1) (run + 1) before inside room (omega arith) (omega arith) (ap unspaced (sym (part (run + 1) (omega arith))) ∙ h ∙ part (run + 1) (omega arith))
      by_kept false h = copied s block at count (run + 1) (run + 0) before inside room (omega arith) (omega arith) (ap unspaced (sym (part (run + 1) (omega arith))) ∙ h ∙ part (run + 0) (omega arith))

  -- the bytes behind the last that is marked
  rest-copied : 0 ≡ mask_l (map low (chunk at n s)) → HasCopied s (at + n) (put_chunk count block (chunk at 32 s)) (count + n)
  rest-copied none =
      let all = leading_from_mask_l low (chunk at n s) (sym none) in
      copied s block at count n n before inside room (omega arith) few (rw (all, take_all (length (chunk at n s)) (chunk at n s) (omega arith)) at (run-kept (chunk at n s)))

-- the first byte that is marked
first-marked : (s : List ℕ) (at n marks : ℕ) → at + n ≤ length s → n ≤ 32 → marks ≡ mask_l (map low (chunk at n s)) → 0 < marks
    → (count_trailing_zeros 64 marks ≡ run_of (chunk at n s)) × (count_trailing_zeros 64 marks < n)
first-marked s at n marks inside few is some =
    let long = length-chunk at n s inside in let marked = rw is at some in
    let first = trailing_mask_l low 64 (chunk at n s) (omega (arith, long)) marked in
    rw is (first, omega (arith, first, long, run-inside (chunk at n s) marked))

pub runs-init : goal.runs-init
runs-init c =
    let all : c.args.start + 32 - c.args.start ≡ 32 = omega arith in
    let mask = bitmask_splat w8 leb (chunk c.args.start 32 c.args.src.now) 32 32 (length-chunk c.args.start 32 c.args.src.now (omega arith)) (omega arith) in
    (omega arith, omega arith, refl, c.requires.before, rw all mask)

pub bounds-src-at : goal.bounds-src-at
bounds-src-at c =
    let first = first-marked c.args.src.now c.runs.at (c.args.start + 32 - c.runs.at) c.runs.marks (omega arith) (omega arith) c.runs.invariant.4 (omega arith) in
    omega (arith, first.1)

pub overflow_shr-marks : goal.overflow_shr-marks
overflow_shr-marks c =
    let first = first-marked c.args.src.now c.runs.at (c.args.start + 32 - c.runs.at) c.runs.marks (omega arith) (omega arith) c.runs.invariant.4 (omega arith) in
    omega (arith, first.1)

pub runs-preserved : goal.runs-preserved
runs-preserved c =
    let s = c.args.src.now in let at = c.runs.at in let n = c.args.start + 32 - at in
    let first = first-marked s at n c.runs.marks (omega arith) (omega arith) c.runs.invariant.4 (omega arith) in
    let run = count_trailing_zeros 64 c.runs.marks in
    let copied = run-copied s c.runs.block at c.runs.count n c.runs.invariant.3 (omega arith) (omega arith) (omega arith) run first.0 first.1 in
    let left : n - (run + 1) ≡ c.args.start + 32 - (at + (run + 1)) = omega arith in (
      omega arith,
      omega (arith, first.1),
      rw c.copy_lanes.ensures (length-put_chunk c.runs.count c.runs.block (chunk at 32 s) ∙ c.runs.invariant.2),
      rw (c.copy_lanes.ensures, c.from.ensures, c.is_ascii_whitespace-is_solid.ensures.value) copied,
      ap (λ m. m / 2 ^ (run + 1)) c.runs.invariant.4 ∙ rw left at (mask-behind s at n (run + 1) (omega (arith, first.1))),
    )

pub returns : goal.returns
returns c =
    let n = c.args.start + 32 - c.runs.at in
    let none : 0 ≡ mask_l _ = sym c.runs-test.false ∙ c.runs.invariant.4 in
    let copied = rest-copied c.args.src.now c.runs.block c.runs.at c.runs.count n c.runs.invariant.3 (omega arith) (omega arith) (omega arith) none in
    let all : c.runs.at + n ≡ c.args.start + 32 = omega arith in
    rw c.copy_lanes-2.ensures (rw all at copied)
