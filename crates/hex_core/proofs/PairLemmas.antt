-- Neighbouring lanes: words of two, packed nibbles, two vectors taken in turn, and shifted words of four.
use Rattle.std.proofs.Common.{◌≡◌, ℕ, zero, suc, ◌+◌, ◌*◌, ◌/◌, ◌%◌, ◌<◌, List, [], ◌∷◌, ◌++◌, map, length, length-drop, get_or}
use Rattle.std.proofs.Common.{take, drop, drop-cons, refl, sym, ap, ap₂, ◌∙◌, arith, ◌^◌, ◌≤◌, inl, inr, Fits, w8, w32}
use Rattle.std.proofs.lemmas.List.{drop_all, drop_at, get_or_append_left, get_or-append_right, length-take-le, take-append-drop}
use Rattle.std.proofs.lemmas.List.{take_all, take_at, get_or_past}
use lib.Lanes.{chunk, number_l, digits_l, pick_l, Each1}
use Rattle.hex_core.specs.inside.Arithmetic.{interleaved, packed, pair_byte}
use Rattle.hex_core.specs.Lanes.{ArePacked, AreSmall}
use Rattle.std.specs.Prelude.{EachIndex}
use Rattle.std.proofs.Math.ListN.{get_or-map}
use Rattle.std.proofs.Math.Nat.{div-div-eq-div-mul, pow-succ'}
use Rattle.std.proofs.lemmas.Bool.{cases_lt}
use Rattle.std.proofs.lemmas.Simd.{Each1-chunk, below_from_Fits, get_or-chunk, get_or_narrower, get_or_wider, length-chunk}
use Rattle.std.proofs.lemmas.Bool.Decides.{nat_tests}
use Rattle.hex_core.specs.inside.Hash.{neighbour_bits, shifted}

-- the bytes of words of nibbles, as std reads them out of one number
pub packs_words : (n : ℕ) (v : List ℕ) → length v ≡ 2 * n → AreSmall v → map pair_byte (digits_l 65536 n (number_l 256 v)) ≡ packed v
packs_words zero [] e small = refl
packs_words zero (a ∷ v) e small = absurd (omega arith)
packs_words (suc n) [] e small = absurd (omega arith)
packs_words (suc n) (a ∷ []) e small = absurd (omega arith)
packs_words (suc n) (a ∷ b ∷ v) e small =
    let A : a < 16 = small 0 (omega arith) in
    let B : b < 16 = small 1 (omega arith) in
    ap₂ (λ x r. x ∷ r) (omega arith)
    (ap (λ k. map pair_byte (digits_l 65536 n k)) (omega arith) ∙ packs_words n v (omega arith) (λ i h. small (suc (suc i)) (omega arith)))

-- every second lane
abbrev pub seconds : List ℕ → List ℕ
seconds [] = []
seconds (x ∷ []) = []
seconds (x ∷ y ∷ v) = y ∷ seconds v

seconds_joined : (xs ys : List ℕ) → length xs % 2 ≡ 0 → seconds (xs ++ ys) ≡ seconds xs ++ seconds ys
seconds_joined [] ys even = refl
seconds_joined (x ∷ []) ys even = absurd (omega arith)
seconds_joined (x ∷ y ∷ xs) ys even = ap (λ r. y ∷ r) (seconds_joined xs ys (omega arith))

-- the places of every second lane, from lane i on
abbrev pub second_places : ℕ → ℕ → List ℕ
second_places i zero = []
second_places i (suc m) = suc i ∷ second_places (suc (suc i)) m

pick_seconds : (v : List ℕ) (i m : ℕ) → i + 2 * m ≡ length v → pick_l 0 v (second_places i m) ≡ seconds (drop i v)
pick_seconds v i zero e = sym (ap seconds (drop_all i v (omega arith)))
pick_seconds v i (suc m) e =
    ap (λ r. get_or v (suc i) 0 ∷ r) (pick_seconds v (suc (suc i)) m (omega arith))
    ∙ sym (ap seconds (drop-cons v i 0 (omega arith) ∙ ap (λ l. get_or v i 0 ∷ l) (drop-cons v (suc i) 0 (omega arith))))

abbrev pub product : ℕ → ℕ
product w = w * 4097 % 65536

-- the high bytes of the products of words of nibbles
high_bytes : (m n : ℕ) (v : List ℕ) → m ≡ 2 * n → length v ≡ m → AreSmall v → seconds (digits_l 256 m (number_l 65536 (map product (digits_l 65536 n (number_l 256 v))))) ≡ packed v
high_bytes zero n [] twice long small = refl
high_bytes (suc m) n [] twice long small = absurd (omega arith)
high_bytes m n (a ∷ []) twice long small = absurd (omega arith)
high_bytes zero n (a ∷ b ∷ v) twice long small = absurd (omega arith)
high_bytes (suc zero) n (a ∷ b ∷ v) twice long small = absurd (omega arith)
high_bytes (suc (suc m)) zero (a ∷ b ∷ v) twice long small = absurd (omega arith)
high_bytes (suc (suc m)) (suc n) (a ∷ b ∷ v) twice long small =
    let A : a < 16 = small 0 (omega arith) in let B : b < 16 = small 1 (omega arith) in let k = number_l 256 v in let all = a + 256 * (b + 256 * k) in
    let rest : ℕ → ℕ = λ t. number_l 65536 (map product (digits_l 65536 n t)) in let p = product (all % 65536) + 65536 * rest (all / 65536) in
    let next : all / 65536 ≡ k = omega arith in let past : p / 256 / 256 ≡ rest (all / 65536) = omega arith in
    ap₂ (λ x r. x ∷ r) (omega arith) (ap (λ t. seconds (digits_l 256 m t)) (past ∙ ap rest next) ∙ high_bytes m n v (omega arith) (omega arith) (λ i h. small (suc (suc i)) (omega arith)))

-- the bytes of two vectors of nibbles, picked from the products of their words
pub packs_both : (a b p q : List ℕ) → length a ≡ 64 → length b ≡ 64 → AreSmall a → AreSmall b → p ≡ map product (digits_l 65536 32 (number_l 256 a)) → q ≡ map product (digits_l 65536 32 (number_l 256 b))
    → pick_l 0 (digits_l 256 64 (number_l 65536 p) ++ digits_l 256 64 (number_l 65536 q)) (second_places 0 64) ≡ packed a ++ packed b
packs_both a b p q long wide A B first second =
    let front = digits_l 256 64 (number_l 65536 p) in let back = digits_l 256 64 (number_l 65536 q) in
    pick_seconds (front ++ back) 0 64 refl ∙ seconds_joined front back refl
    ∙ ap₂ (λ x y. x ++ y) (ap (λ l. seconds (digits_l 256 64 (number_l 65536 l))) first ∙ high_bytes 64 32 a refl long A) (ap (λ l. seconds (digits_l 256 64 (number_l 65536 l))) second ∙ high_bytes 64 32 b refl wide B)

pub length-packed : (v : List ℕ) → length (packed v) ≡ length v / 2
length-packed [] = refl
length-packed (a ∷ []) = refl
length-packed (a ∷ b ∷ v) = let e = length-packed v in omega arith

pub packed_at : (v : List ℕ) (i : ℕ) → 2 * i + 1 < length v → get_or (packed v) i 0 ≡ 16 * get_or v (2 * i) 0 + get_or v (2 * i + 1) 0
packed_at [] i h = absurd (omega arith)
packed_at (a ∷ []) i h = absurd (omega arith)
packed_at (a ∷ b ∷ v) zero h = refl
packed_at (a ∷ b ∷ v) (suc i) h =
    let two : 2 * suc i ≡ suc (suc (2 * i)) = omega arith in
    let three : 2 * suc i + 1 ≡ suc (suc (2 * i + 1)) = omega arith in
    packed_at v i (omega arith) ∙ ap₂ (λ x y. 16 * get_or (a ∷ b ∷ v) x 0 + get_or (a ∷ b ∷ v) y 0) (sym two) (sym three)

pub are_packed : (v r : List ℕ) → length v % 2 ≡ 0 → r ≡ packed v → ArePacked v r
are_packed v r even is i h =
    let half : length r ≡ length v / 2 = ap length is ∙ length-packed v in
    ap (λ l. get_or l i 0) is ∙ packed_at v i (omega arith)

packed_joined : (xs ys : List ℕ) → length xs % 2 ≡ 0 → packed (xs ++ ys) ≡ packed xs ++ packed ys
packed_joined [] ys even = refl
packed_joined (a ∷ []) ys even = absurd (omega arith)
packed_joined (a ∷ b ∷ xs) ys even = ap (λ r. (16 * a + b) ∷ r) (packed_joined xs ys (omega arith))

-- the bytes of both halves of n + n nibbles
pub packed_halves : (n w : ℕ) (v : List ℕ) → n ≡ 2 * w → length v ≡ n + n → (chunk 0 w (packed v) ≡ packed (take n v)) × (chunk w w (packed v) ≡ packed (drop n v))
packed_halves n w v half long =
    let f = take n v in let b = drop n v in
    let short : length f ≡ n = length-take-le n v (omega arith) in
    let front : length (packed f) ≡ w = length-packed f ∙ omega arith in
    let both : packed v ≡ packed f ++ packed b = ap packed (sym (take-append-drop n v)) ∙ packed_joined f b (omega arith) in (
      ap (take w) both ∙ take_at (packed f) (packed b) w front,
      ap (λ l. take w (drop w l)) both ∙ ap (take w) (drop_at (packed f) (packed b) w front) ∙ take_all w (packed b) (omega (arith, length-packed b, length-drop n v)),
    )

-- ---- two vectors in turn

-- the places that are picked of two vectors of n lanes, from lane i on, for m lanes of each
abbrev pub turns : ℕ → ℕ → ℕ → List ℕ
turns n i zero = []
turns n i (suc m) = i ∷ (n + i) ∷ turns n (suc i) m

pick_turns : (xs ys : List ℕ) (i m : ℕ) → length xs ≡ length ys → i + m ≡ length xs → pick_l 0 (xs ++ ys) (turns (length xs) i m) ≡ interleaved (drop i xs) (drop i ys)
pick_turns xs ys i zero e h = sym (ap (λ l. interleaved l (drop i ys)) (drop_all i xs (omega arith)))
pick_turns xs ys i (suc m) e h =
    ap₂ (λ a r. a ∷ r) (get_or_append_left xs ys 0 i (omega arith))
    (ap₂ (λ a r. a ∷ r) (get_or-append_right xs ys (length xs) (length xs + i) 0 refl (omega arith) ∙ ap (λ k. get_or ys k 0) (omega arith)) (pick_turns xs ys (suc i) m e (omega arith)))
    ∙ sym (ap₂ interleaved (drop-cons xs i 0 (omega arith)) (drop-cons ys i 0 (omega arith)))

pub in_turn : (n : ℕ) (xs ys : List ℕ) → length xs ≡ n → length ys ≡ n → pick_l 0 (xs ++ ys) (turns n 0 n) ≡ interleaved xs ys
in_turn n xs ys p q = ap₂ (λ k m. pick_l 0 (xs ++ ys) (turns k 0 m)) (sym p) (sym p) ∙ pick_turns xs ys 0 (length xs) (p ∙ sym q) (omega arith)

-- ---- a shift of words of four bytes by three bits, seen in the bytes

-- a byte of a shifted number is its own high bits, and above them the low bits of the next
shifted_byte : (v : List ℕ) (m : ℕ) → Each1 (Fits w8) v → m < length v → number_l 256 v / 8 / 256 ^ m % 256 ≡ get_or v m 0 / 8 + 32 * (get_or v (suc m) 0 % 8)
shifted_byte [] m f h = absurd (omega arith)
shifted_byte (x ∷ []) zero f h = let X : x < 256 = f.0.fits in omega arith
shifted_byte (x ∷ y ∷ v) zero f h =
    let X : x < 256 = f.0.fits in omega arith
shifted_byte (x ∷ v) (suc m) f h =
    let X : x < 256 = f.0.fits in
    let all = x + 256 * number_l 256 v in
    let rest : all / 8 / 256 ≡ number_l 256 v / 8 = omega arith in
    ap (λ n. all / 8 / n % 256) (pow-succ' 256 m) ∙ ap (λ n. n % 256) (sym (div-div-eq-div-mul (all / 8) 256 (256 ^ m)) ∙ ap (λ n. n / 256 ^ m) rest)
    ∙ shifted_byte v m f.1 (omega arith)

pub eighths_fit : (w : List ℕ) → Each1 (Fits w32) w → Each1 (λ x. x < 2 ^ 32) (map (λ x. x / 8) w)
eighths_fit [] f = tt
eighths_fit (x ∷ w) f = (let h : x < 2 ^ 32 = f.0.fits in omega arith, eighths_fit w f.1)

-- a lane that is not its word's last, and one that is
inner : (v : List ℕ) (i : ℕ) → i % 4 < 3 → get_or v (i + 1) 0 % 8 ≡ neighbour_bits v i
inner v i h = grind (arith, nat_tests)

last : (v : List ℕ) (i : ℕ) → 3 ≤ i % 4 → 0 ≡ neighbour_bits v i
last v i h = grind (arith, nat_tests)

-- the bytes of v are read as words, and the bytes of their eighths e are written
pub shifted_lane : (v e : List ℕ) (n : ℕ) → (length v ≡ 4 * n) × Each1 (Fits w8) v → e ≡ map (λ x. x / 8) (digits_l 4294967296 n (number_l 256 v)) → Each1 (λ x. x < 2 ^ 32) e
    → EachIndex v (λ i. get_or (digits_l 256 (4 * n) (number_l 4294967296 e)) i 0 ≡ shifted v i)
shifted_lane v e n fits is below i h =
    let words = digits_l 4294967296 n (number_l 256 v) in
    let bytes = digits_l 256 (4 * n) (number_l 4294967296 e) in
    let j = i / 4 in let m = i % 4 in let part = chunk (4 * j) 4 v in
    let lt : j < n = omega (arith, h, fits.0) in
    let place : 4 * j + m ≡ i = omega arith in
    let long : length part ≡ 4 = length-chunk (4 * j) 4 v (omega (arith, fits.0)) in
    let word : get_or words j 0 ≡ number_l 256 part = get_or_wider 256 4 4294967296 n v j refl (below_from_Fits w8 v fits.1) lt in
    let next : get_or part (suc m) 0 % 8 ≡ neighbour_bits v i = elim (cases_lt m 3) [
      | inl low ↦ ap (λ x. x % 8) (get_or-chunk (4 * j) 4 v (suc m) 0 (omega arith) ∙ ap (λ k. get_or v k 0) (omega arith)) ∙ inner v i low
      | inr high ↦ ap (λ x. x % 8) (get_or_past part (suc m) 0 (omega arith)) ∙ last v i high
    ] in
    ap (λ x. get_or bytes x 0) (sym place) ∙ get_or_narrower 4294967296 4 256 (4 * n) _ j m refl below (omega arith) (omega arith)
    ∙ ap (λ x. x / 256 ^ m % 256) (ap (λ l. get_or l j 0) is ∙ get_or-map (λ x. x / 8) words j 0 ∙ ap (λ x. x / 8) word) ∙ shifted_byte part m (Each1-chunk (Fits w8) (4 * j) 4 v fits.1) (omega arith)
    ∙ ap₂ (λ a b. a / 8 + 32 * b) (get_or-chunk (4 * j) 4 v m 0 (omega arith) ∙ ap (λ k. get_or v k 0) place) next
