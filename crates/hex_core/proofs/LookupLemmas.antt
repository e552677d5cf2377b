-- Looking lanes up in a row.
use Rattle.std.proofs.Common.{◌≡◌, ℕ, zero, suc, ◌+◌, ◌*◌, ◌/◌, ◌%◌, ◌<◌, Bool, true, false, ◌||◌, cond, T, eqb}
use Rattle.std.proofs.Common.{eqb-true, leb, ltb, List, [], ◌∷◌, ◌++◌, map, length, get_or, bit_and, drop, take, refl, ap, ap₂, sym, ◌∙◌}
use Rattle.std.proofs.Common.{subst, Fits, w8, arith}
use Rattle.std.proofs.lemmas.Bool.{agree_below, agree_below_at}
use Rattle.std.proofs.lemmas.List.{ext_get_or, get_or-map, get_or_append_left, length-drop, length-map, map-append, take-append-drop, take-map, take_all, drop-map}
use Rattle.std.specs.List.{range_with_len}
use Rattle.std.proofs.lemmas.Simd.{SwzOk, SwzOk-from_Each1, SwzOk-from_below, get_or-swz_l, get_or-swz_l_below, length-swz_l, pick_l-range_with_len, pick_l_left, pick_l_whole, swz_l}
use lib.Lanes.{Each1, all_below, chunk, pick_l}
use mir.Val.{zeroes}
use Rattle.hex_core.specs.inside.Tables.{entry, long_entry}
use Rattle.hex_core.proofs.ByteLemmas.{always}
use Rattle.hex_core.proofs.LaneLemmas.{lane_below, mapped_at}

-- the position that a look-up by the low four bits is given: 0x8f keeps the sign bit, at which it gives 0
abbrev pub slot : ℕ → ℕ
slot a = bit_and a 143

all_in_row : (v : List ℕ) → Each1 (Fits w8) v → Each1 (λ j. T (zeroes 16 w8 j || ltb j 16)) (map slot v)
all_in_row [] f = tt
all_in_row (x ∷ xs) f = (subst T (sym (agree_below_at (λ a. zeroes 16 w8 (slot a) || ltb (slot a) 16) always 256 x refl f.0.fits)) tt, all_in_row xs f.1)

-- the positions are those that std's look-up takes, in a vector of b times sixteen lanes
pub shuffle_ok : (b n : ℕ) (v js : List ℕ) → (length v ≡ n) × Each1 (Fits w8) v → js ≡ map slot v → n ≡ b * 16 → SwzOk w8 16 n 0 js
shuffle_ok b n v js f is e =
    subst (SwzOk w8 16 n 0) (sym is) (SwzOk-from_Each1 w8 16 b n 0 (map slot v) e (omega (arith, length-map v slot, f.0)) (all_in_row v f.1))

-- the row stands in each sixteen lanes of t
abbrev pub Repeats : List ℕ → List ℕ → ℕ → Type 0
Repeats row t n = (i : ℕ) → i < n → get_or t i 0 ≡ get_or row (i % 16) 0

entry_of : (row t : List ℕ) (n i a j b : ℕ) (z : Bool) → leb 128 a ≡ z → j ≡ cond z (128 + a % 16) (a % 16) → i < n → n ≡ b * 16 → Repeats row t n
    → cond z 0 (get_or t (16 * ((0 + i) / 16) + j) 0) ≡ cond z 0 (get_or row (a % 16) 0)
entry_of row t n i a j b true e is h whole rows = refl
entry_of row t n i a j b false e is h whole rows =
    let at : 16 * ((0 + i) / 16) + j < n = omega arith in
    rows (16 * ((0 + i) / 16) + j) at ∙ ap (λ k. get_or row k 0) (omega arith)

pub shuffle_is : (b n : ℕ) (row t v js : List ℕ) → (length v ≡ n) × Each1 (Fits w8) v → js ≡ map slot v → n ≡ b * 16 → Repeats row t n → swz_l w8 16 t 0 js ≡ map (entry row) v
shuffle_is b n row t v js f is e rows =
    let long : length js ≡ n = ap length is ∙ length-map v slot ∙ f.0 in
    ext_get_or 0 _ _ (length-swz_l w8 16 t 0 js ∙ long ∙ sym (length-map v (entry row) ∙ f.0)) (λ i h.
    let lt : i < n = omega (arith, length-swz_l w8 16 t 0 js) in
    let a = get_or v i 0 in
    let A : a < 256 = lane_below v f.1 i in
    let at : get_or js i 0 ≡ slot a = mapped_at slot v i is (omega (arith, f.0)) in
    let none : zeroes 16 w8 (get_or js i 0) ≡ leb 128 a = ap (zeroes 16 w8) at ∙ agree_below_at (λ x. zeroes 16 w8 (slot x)) (λ x. leb 128 x) 256 a refl A in
    let is_slot = at ∙ eqb-true _ _ (agree_below_at (λ x. eqb (slot x) (cond (leb 128 x) (128 + x % 16) (x % 16))) always 256 a refl A) in
    get_or-swz_l w8 16 t 0 js i (omega arith) ∙ ap (λ z. cond z 0 (get_or t (16 * ((0 + i) / 16) + get_or js i 0) 0)) none
    ∙ entry_of row t n i a (get_or js i 0) b (leb 128 a) refl is_slot lt e rows ∙ sym (get_or-map (entry row) v i 0 0 (omega (arith, f.0))))

-- the places of a row, over and over
abbrev pub over : ℕ → ℕ → List ℕ
over i zero = []
over i (suc m) = (i % 16) ∷ over (suc i) m

-- a row that is picked over and over repeats itself
repeats : (entries ks : List ℕ) (n : ℕ) → length entries ≡ 16 → length ks ≡ n → agree_below (λ i. eqb (get_or ks i 0) (i % 16)) always n ≡ true → Repeats entries (pick_l 0 (entries ++ entries) ks) n
repeats entries ks n long many all i h =
    let at : get_or ks i 0 ≡ i % 16 = eqb-true _ _ (agree_below_at (λ i. eqb (get_or ks i 0) (i % 16)) always n i all h) in
    get_or-map (λ k. get_or (entries ++ entries) k 0) ks i 0 0 (omega arith) ∙ ap (λ k. get_or (entries ++ entries) k 0) at ∙ get_or_append_left entries entries 0 (i % 16) (omega arith)

-- so it is looked up as the row itself
pub shuffle_repeated : (b n : ℕ) (row ks v js : List ℕ) → (length v ≡ n) × Each1 (Fits w8) v → js ≡ map slot v → n ≡ b * 16 → length row ≡ 16 → length ks ≡ n
    → agree_below (λ i. eqb (get_or ks i 0) (i % 16)) always n ≡ true → swz_l w8 16 (pick_l 0 (row ++ row) ks) 0 js ≡ map (entry row) v
shuffle_repeated b n row ks v js f is e long many all = shuffle_is b n row (pick_l 0 (row ++ row) ks) v js f is e (repeats row ks n long many all)

-- the lanes of the first of two vectors, picked in order
pub front_picked : (n : ℕ) (v : List ℕ) → length v ≡ n → all_below n (range_with_len 0 n) ≡ true → pick_l 0 (v ++ v) (range_with_len 0 n) ≡ v
front_picked n v long inside = pick_l_left 0 v v n (range_with_len 0 n) long (subst T (sym inside) tt) ∙ pick_l_whole 0 v n long

-- both halves of a vector, mapped and joined
pub halves_mapped : (f : ℕ → ℕ) (v : List ℕ) (n : ℕ) → length v ≡ 2 * n → T (all_below (2 * n) (range_with_len 0 n)) → T (all_below (2 * n) (range_with_len n n))
    → pick_l 0 (map f (pick_l 0 (v ++ v) (range_with_len 0 n)) ++ map f (pick_l 0 (v ++ v) (range_with_len n n))) (range_with_len 0 (2 * n)) ≡ map f v
halves_mapped f v n long low high =
    let front : pick_l 0 (v ++ v) (range_with_len 0 n) ≡ chunk 0 n v = pick_l_left 0 v v (2 * n) (range_with_len 0 n) long low ∙ pick_l-range_with_len 0 v 0 n (omega (arith, long)) in
    let back : pick_l 0 (v ++ v) (range_with_len n n) ≡ chunk n n v = pick_l_left 0 v v (2 * n) (range_with_len n n) long high ∙ pick_l-range_with_len 0 v n n (omega (arith, long)) in
    let whole : chunk 0 n v ++ chunk n n v ≡ v = ap (λ r. chunk 0 n v ++ r) (take_all n (drop n v) (omega (arith, length-drop n v, long))) ∙ take-append-drop n v in
    let joined : map f (pick_l 0 (v ++ v) (range_with_len 0 n)) ++ map f (pick_l 0 (v ++ v) (range_with_len n n)) ≡ map f v =
    ap₂ (λ a b. map f a ++ map f b) front back ∙ sym (map-append f (chunk 0 n v) (chunk n n v)) ∙ ap (map f) whole in
    pick_l_whole 0 _ (2 * n) (ap length joined ∙ length-map v f ∙ long) ∙ joined

-- the first lanes of a mapped vector
pub chunk_mapped : (f : ℕ → ℕ) (a n : ℕ) (v : List ℕ) → chunk a n (map f v) ≡ map f (chunk a n v)
chunk_mapped f a n v = ap (take n) (drop-map f a v) ∙ take-map f n (drop a v)

-- ---- a row of 64

-- the position that a look-up by the low six bits is given
abbrev pub long_slot : ℕ → ℕ
long_slot a = bit_and a 63

long_slot_is : (a : ℕ) → a < 256 → long_slot a ≡ a % 64
long_slot_is a h = eqb-true _ _ (agree_below_at (λ x. eqb (long_slot x) (x % 64)) always 256 a refl h)

all_in_long_row : (v : List ℕ) → Each1 (Fits w8) v → Each1 (λ j. j < 64) (map long_slot v)
all_in_long_row [] f = tt
all_in_long_row (x ∷ xs) f = (omega (arith, long_slot_is x f.0.fits), all_in_long_row xs f.1)

pub look_up_ok : (v js : List ℕ) → (length v ≡ 64) × Each1 (Fits w8) v → js ≡ map long_slot v → SwzOk w8 64 64 0 js
look_up_ok v js f is =
    subst (SwzOk w8 64 64 0) (sym is) (SwzOk-from_below w8 64 1 64 0 (map long_slot v) refl (omega (arith, length-map v long_slot, f.0)) (all_in_long_row v f.1))

pub look_up_is : (row v js : List ℕ) → (length v ≡ 64) × Each1 (Fits w8) v → js ≡ map long_slot v → swz_l w8 64 row 0 js ≡ map (long_entry row) v
look_up_is row v js f is =
    let long : length js ≡ 64 = ap length is ∙ length-map v long_slot ∙ f.0 in
    ext_get_or 0 _ _ (length-swz_l w8 64 row 0 js ∙ long ∙ sym (length-map v (long_entry row) ∙ f.0)) (λ i h.
    let lt : i < 64 = omega (arith, length-swz_l w8 64 row 0 js) in
    let at : get_or js i 0 ≡ get_or v i 0 % 64 = mapped_at long_slot v i is (omega (arith, f.0)) ∙ long_slot_is (get_or v i 0) (lane_below v f.1 i) in
    get_or-swz_l_below w8 64 row 0 js i (omega arith) (omega arith) ∙ ap (λ k. get_or row k 0) (omega arith)
    ∙ sym (get_or-map (long_entry row) v i 0 0 (omega (arith, f.0))))
