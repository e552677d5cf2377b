-- What an operation makes of the lanes of a vector.
use Rattle.std.proofs.Common.{◌≡◌, ℕ, zero, suc, ◌+◌, ◌-◌, ◌*◌, ◌/◌, ◌^◌, ◌%◌, ◌<◌, ◌≤◌, ◌↔◌, Bool, true, false, cond}
use Rattle.std.proofs.Common.{leb, ltb, eqb, eqb-true, List, [], ◌∷◌, map, length, get_or, replicate, bit_and, bit_or}
use Rattle.std.proofs.Common.{refl, ap, ap₂, sym, ◌∙◌, subst, Fits, w8, arith, ltb-true, ltb-false}
use Rattle.std.specs.Prelude.{EachIndex, IsTrue, max, min}
use Rattle.std.proofs.lemmas.Bool.{leb-false, leb-true}
use Rattle.std.proofs.lemmas.List.{get_or-map, length-map, length-replicate, map-id}
use Rattle.std.proofs.lemmas.Nat.{le_or_l, le_or_r, or_lt}
use Rattle.std.proofs.lemmas.Nat.Bits.{bit_at_and, bit_at_or, same_from_bits}
use Rattle.std.proofs.lemmas.Simd.{Each1-zip2, Each2-of, get_or-zip2, length-zip2, map-map, mask_l-mod, zip2_splat}
use Rattle.std.proofs.lemmas.Grind.{common_steps}
use lib.Lanes.{zip2, sel_l, top, fold_l, mask_l, Each1}
use Rattle.hex_core.specs.inside.Arithmetic.{AreZero, pair_byte, saturating_add, wrapping_sub}
use Rattle.hex_core.specs.inside.Hash.{average}

-- ---- lanes by place

pub lane_below : (v : List ℕ) → Each1 (Fits w8) v → (i : ℕ) → get_or v i 0 < 256
lane_below [] h i = omega arith
lane_below (x ∷ xs) h zero = h.0.fits
lane_below (x ∷ xs) h (suc i) = lane_below xs h.1 i

pub mapped_at : (f : ℕ → ℕ) (v : List ℕ) {r : List ℕ} (i : ℕ) → r ≡ map f v → i < length v → get_or r i 0 ≡ f (get_or v i 0)
mapped_at f v i is h = ap (λ l. get_or l i 0) is ∙ get_or-map f v i 0 0 h

pub zipped_at : (f : ℕ → ℕ → ℕ) (v w : List ℕ) {r : List ℕ} (i : ℕ) → r ≡ zip2 f v w → i < length v → i < length w → get_or r i 0 ≡ f (get_or v i 0) (get_or w i 0)
zipped_at f v w i is p q = ap (λ l. get_or l i 0) is ∙ get_or-zip2 f v w i 0 0 0 p q

-- ---- operations in a row

pub mapped : {X Y Z : Type 0} (f : Y → Z) (g : X → Y) (v : List X) {xs : List Y} → xs ≡ map g v → map f xs ≡ map (λ x. f (g x)) v
mapped f g v e = ap (map f) e ∙ map-map f g v

-- two functions that agree on bytes
pub maps_agree : {Y : Type 0} (f g : ℕ → Y) → ((x : ℕ) → x < 256 → f x ≡ g x) → (v : List ℕ) → Each1 (Fits w8) v → map f v ≡ map g v
maps_agree f g same [] e = refl
maps_agree f g same (x ∷ xs) e = ap₂ (λ a r. a ∷ r) (same x e.0.fits) (maps_agree f g same xs e.1)

-- each two lanes, the second of them mapped
pub zipped_map : (f : ℕ → ℕ → ℕ) (g : ℕ → ℕ) (v w : List ℕ) → zip2 f v (map g w) ≡ zip2 (λ x y. f x (g y)) v w
zipped_map f g [] w = refl
zipped_map f g (x ∷ v) [] = refl
zipped_map f g (x ∷ v) (y ∷ w) = ap (λ l. f x (g y) ∷ l) (zipped_map f g v w)

-- two operations with a number each
pub splat_twice : (f g : ℕ → ℕ → ℕ) (v : List ℕ) (n a b : ℕ) → length v ≡ n → zip2 g (zip2 f v (replicate n a)) (replicate n b) ≡ map (λ x. g (f x a) b) v
splat_twice f g v n a b e =
    rw (zip2_splat f v n a e, zip2_splat g (map (λ x. f x a) v) n b (length-map v (λ x. f x a) ∙ e)) (map-map (λ x. g x b) (λ x. f x a) v)

-- ---- what std selects by a comparison

-- the mask of a lane that is below another
abbrev pub below : ℕ → ℕ → ℕ
below a b = cond (ltb a b) 255 0

-- what is picked by it, as the one or the other
picked : (x y a b r : ℕ) → (x < y → a ≡ r) → (y ≤ x → b ≡ r) → cond (top 7 (below x y)) a b ≡ r
picked x y a b r under over = go (ltb x y) refl
  where
    go : (t : Bool) → ltb x y ≡ t → cond (top 7 (cond t 255 0)) a b ≡ r
    go true e = under (ltb-true _ _ e)
    go false e = over (ltb-false _ _ e)

pub minima : (xs ys : List ℕ) → sel_l (map (top 7) (zip2 below xs ys)) xs ys ≡ zip2 min xs ys
minima [] ys = refl
minima (x ∷ xs) [] = refl
minima (x ∷ xs) (y ∷ ys) = ap₂ (λ a r. a ∷ r) (picked x y _ _ _ (λ h. omega arith) (λ h. omega arith)) (minima xs ys)

pub maxima : (xs ys : List ℕ) → sel_l (map (top 7) (zip2 below xs ys)) ys xs ≡ zip2 max xs ys
maxima [] [] = refl
maxima [] (y ∷ ys) = refl
maxima (x ∷ xs) [] = refl
maxima (x ∷ xs) (y ∷ ys) = ap₂ (λ a r. a ∷ r) (picked x y _ _ _ (λ h. omega arith) (λ h. omega arith)) (maxima xs ys)

pub differences : (xs ys : List ℕ) → Each1 (Fits w8) xs → Each1 (Fits w8) ys → zip2 wrapping_sub (sel_l (map (top 7) (zip2 below xs ys)) ys xs) ys ≡ zip2 (λ x y. x - y) xs ys
differences xs ys f g = ap (λ l. zip2 wrapping_sub l ys) (maxima xs ys) ∙ go xs ys f g
  where
    go : (xs ys : List ℕ) → Each1 (Fits w8) xs → Each1 (Fits w8) ys → zip2 wrapping_sub (zip2 max xs ys) ys ≡ zip2 (λ x y. x - y) xs ys
    go [] ys f g = refl
    go (x ∷ xs) [] f g = refl
    go (x ∷ xs) (y ∷ ys) f g = ap₂ (λ a r. a ∷ r) (omega (arith, f.0.fits, g.0.fits)) (go xs ys f.1 g.1)

abbrev pub wrapping_add : ℕ → ℕ → ℕ
wrapping_add a b = (a + b) % 2 ^ 8

pub sums : (v : List ℕ) (k n : ℕ) → (length v ≡ n) × Each1 (Fits w8) v → k < 256
    → zip2 wrapping_add (sel_l (map (top 7) (zip2 below v (replicate n (255 - k)))) v (replicate n (255 - k))) (replicate n k) ≡ map (λ x. saturating_add x k) v
sums v k n f h =
    rw (minima v (replicate n (255 - k)), splat_twice min wrapping_add v n (255 - k) k f.0)
    (maps_agree (λ x. wrapping_add (min x (255 - k)) k) (λ x. saturating_add x k) (λ x lt. omega arith) v f.1)

-- ---- averages, computed in words

abbrev word_add : ℕ → ℕ → ℕ
word_add a b = (a + b) % 2 ^ 16

averaged : (xs ys : List ℕ) → Each1 (Fits w8) xs → Each1 (Fits w8) ys → map (λ s. word_add s 1 / 2 ^ 1) (zip2 word_add xs ys) ≡ zip2 average xs ys
averaged [] ys f g = refl
averaged (x ∷ xs) [] f g = refl
averaged (x ∷ xs) (y ∷ ys) f g = ap₂ (λ a r. a ∷ r) (omega (arith, f.0.fits, g.0.fits)) (averaged xs ys f.1 g.1)

pub averages_of : (xs ys : List ℕ) (n : ℕ) → (length xs ≡ n) × Each1 (Fits w8) xs → (length ys ≡ n) × Each1 (Fits w8) ys
    → zip2 (λ a b. a / 2 ^ b) (zip2 word_add (zip2 word_add (map (λ x. x) xs) (map (λ x. x) ys)) (replicate n 1)) (replicate n 1) ≡ zip2 average xs ys
averages_of xs ys n f g =
    rw (map-id xs, map-id ys)
    (splat_twice word_add (λ a b. a / 2 ^ b) (zip2 word_add xs ys) n 1 1 (length-zip2 word_add xs ys (f.0 ∙ sym g.0) ∙ f.0) ∙ averaged xs ys f.1 g.1)

pub averages_fit : (xs ys : List ℕ) → Each1 (Fits w8) xs → Each1 (Fits w8) ys → Each1 (Fits w8) (zip2 average xs ys)
averages_fit xs ys f g =
    Each1-zip2 average (Fits w8) xs ys (Each2-of (Fits w8) (Fits w8) _ (λ x y p q. let X : x < 256 = p.fits in let Y : y < 256 = q.fits in record { fits = omega arith }) xs ys f g)

-- ---- words to bytes

pub pair_bytes_fit : (v : List ℕ) → Each1 (Fits w8) (map pair_byte v)
pair_bytes_fit [] = tt
pair_bytes_fit (x ∷ xs) = (record { fits = omega arith }, pair_bytes_fit xs)

-- ---- tests of all lanes

pub or_zero : (x y : ℕ) → (bit_or x y ≡ 0) ↔ ((x ≡ 0) × (y ≡ 0))
or_zero x y = (λ e. (omega (arith, e, le_or_l x y), omega (arith, e, le_or_r x y)), λ p. rw (p.0, p.1) refl)

-- the bits of all lanes together are none exactly where each lane is 0
folds_to_none : (v : List ℕ) → AreZero v → fold_l bit_or 0 v ≡ 0
folds_to_none [] none = refl
folds_to_none (x ∷ v) none = rw (none 0 (omega arith)) (folds_to_none v (λ i h. none (suc i) (omega arith)))

-- one more lane with a property
also : (P : ℕ → Type 0) (x : ℕ) (v : List ℕ) → P x → EachIndex v (λ i. P (get_or v i 0)) → EachIndex (x ∷ v) (λ i. P (get_or (x ∷ v) i 0))
also P x v first rest zero h = first
also P x v first rest (suc i) h = rest i (omega (arith, h))

folds_from : (v : List ℕ) (a : ℕ) → fold_l bit_or a v ≡ 0 → (a ≡ 0) × AreZero v
folds_from [] a e = (e, λ i h. omega arith)
folds_from (x ∷ v) a e =
    let rest = folds_from v (bit_or a x) e in let both = (or_zero a x).0 rest.0 in
    (both.0, also (λ a. a ≡ 0) x v both.1 rest.1)

pub no_bit_set : (v : List ℕ) → IsTrue (eqb (fold_l bit_or 0 v) 0) ↔ AreZero v
no_bit_set v = (λ t. (folds_from v 0 (eqb-true _ _ t)).1, λ none. rw (folds_to_none v none) refl)

-- the mask of the lanes that are 128 or more
abbrev pub sign_mask : List ℕ → ℕ
sign_mask v = mask_l (map (top 7) (zip2 (λ a b. cond (leb a b) 255 0) (replicate (length v) 128) v))

-- it is empty exactly where each lane is below 128
no_sign : (v : List ℕ) → (sign_mask v ≡ 0) ↔ EachIndex v (λ i. get_or v i 0 < 128)
no_sign [] = (λ e i h. omega arith, λ all. refl)
no_sign (x ∷ v) = go (no_sign v) (leb 128 x) refl
  where
    go : (sign_mask v ≡ 0) ↔ EachIndex v (λ i. get_or v i 0 < 128) → (t : Bool) → leb 128 x ≡ t
        → (cond (top 7 (cond t 255 0)) 1 0 + 2 * sign_mask v ≡ 0) ↔ EachIndex (x ∷ v) (λ i. get_or (x ∷ v) i 0 < 128)
    go rest true e = (λ z. absurd (omega (arith, z)), λ all. absurd (omega (arith, leb-true 128 x e, all 0 (omega arith))))
    go rest false e = (
      λ z. also (λ a. a < 128) x v (leb-false 128 x e) (rest.0 (omega (arith, z))),
      λ all. let none = rest.1 (λ i h. all (suc i) (omega (arith, h))) in omega (arith, none),
    )

pub no_sign_set : (v : List ℕ) (n : ℕ) → length v ≡ n → n ≤ 64
    → IsTrue (eqb (mask_l (map (top 7) (zip2 (λ a b. cond (leb a b) 255 0) (replicate n 128) v)) % 2 ^ 64) 0) ↔ EachIndex v (λ i. get_or v i 0 < 128)
no_sign_set v n long most =
    let at = zip2 (λ a b. cond (leb a b) 255 0) (replicate n 128) v in
    let wide : length (map (top 7) at) ≡ n = length-map at (top 7) ∙ length-zip2 _ (replicate n 128) v (length-replicate n 128 ∙ sym long) ∙ length-replicate n 128 in
    let same : mask_l (map (top 7) at) % 2 ^ 64 ≡ sign_mask v = mask_l-mod (map (top 7) at) 64 (omega (arith, wide, most)) ∙ ap (λ k. mask_l (map (top 7) (zip2 (λ a b. cond (leb a b) 255 0) (replicate k 128) v))) (sym long) in
    (λ t. (no_sign v).0 (sym same ∙ eqb-true _ 0 t), λ all. rw (same, (no_sign v).1 all) refl)

-- a computed vector passes where each byte has a property
pub passes_where : (f : ℕ → ℕ) (Q P : ℕ → Type 0) → ((x : ℕ) → x < 256 → Q (f x) ↔ P x) → (v : List ℕ) {r : List ℕ} → Each1 (Fits w8) v → r ≡ map f v
    → EachIndex r (λ i. Q (get_or r i 0)) ↔ EachIndex v (λ i. P (get_or v i 0))
passes_where f Q P test v {r} fits is =
    let long : length r ≡ length v = ap length is ∙ length-map v f in (
      λ all i h. (test (get_or v i 0) (lane_below v fits i)).0 (subst Q (mapped_at f v i is h) (all i (omega arith))),
      λ all i h. subst Q (sym (mapped_at f v i is (omega arith))) ((test (get_or v i 0) (lane_below v fits i)).1 (all i (omega arith))),
    )

-- one test does for two vectors, where it passes what two lanes make exactly with both of them
pub each_of_two : (f : ℕ → ℕ → ℕ) (P : ℕ → Type 0) → ((x y : ℕ) → P (f x y) ↔ (P x × P y)) → (v w : List ℕ) → length v ≡ length w
    → EachIndex (zip2 f v w) (λ i. P (get_or (zip2 f v w) i 0)) ↔ (EachIndex v (λ i. P (get_or v i 0)) × EachIndex w (λ i. P (get_or w i 0)))
each_of_two f P both v w same =
    let long : length (zip2 f v w) ≡ length v = length-zip2 f v w same in
    let at : (i : ℕ) → i < length v → get_or (zip2 f v w) i 0 ≡ f (get_or v i 0) (get_or w i 0) = λ i h. zipped_at f v w i refl h (omega arith) in (
      λ all. (
        λ i h. ((both (get_or v i 0) (get_or w i 0)).0 (subst P (at i h) (all i (omega arith)))).0,
        λ i h. ((both (get_or v i 0) (get_or w i 0)).0 (subst P (at i (omega arith)) (all i (omega arith)))).1,
      ),
      λ all i h. subst P (sym (at i (omega arith))) ((both (get_or v i 0) (get_or w i 0)).1 (all.0 i (omega arith), all.1 i (omega arith))),
    )

pub or_small : (x y : ℕ) → (bit_or x y < 16) ↔ ((x < 16) × (y < 16))
or_small x y = (λ h. (omega (arith, h, le_or_l x y), omega (arith, h, le_or_r x y)), λ p. or_lt 4 x y p.0 p.1)

-- two numbers have no bit of a mask exactly where their bits together have none
and_over_or : (m x y : ℕ) → bit_and (bit_or x y) m ≡ bit_or (bit_and x m) (bit_and y m)
and_over_or m x y =
    same_from_bits _ _ (λ i. omega (arith, bit_at_and (bit_or x y) m i, bit_at_or x y i, bit_at_or (bit_and x m) (bit_and y m) i, bit_at_and x m i, bit_at_and y m i))

pub or_clear : (m x y : ℕ) → (bit_and (bit_or x y) m ≡ 0) ↔ ((bit_and x m ≡ 0) × (bit_and y m ≡ 0))
or_clear m x y = rw (and_over_or m x y) (or_zero (bit_and x m) (bit_and y m))

-- what a lane and itself make
pub zipped_self : (f : ℕ → ℕ → ℕ) (g : ℕ → ℕ) (v : List ℕ) → zip2 f (map g v) v ≡ map (λ x. f (g x) x) v
zipped_self f g [] = refl
zipped_self f g (x ∷ v) = ap (λ l. f (g x) x ∷ l) (zipped_self f g v)

pub self_zipped : (f : ℕ → ℕ → ℕ) (g : ℕ → ℕ) (v : List ℕ) → zip2 f v (map g v) ≡ map (λ x. f x (g x)) v
self_zipped f g [] = refl
self_zipped f g (x ∷ v) = ap (λ l. f x (g x) ∷ l) (self_zipped f g v)

pub high_bits_are_zero : (x : ℕ) → x < 256 → (bit_and x 240 ≡ 0) ↔ (x < 16)
high_bits_are_zero x h = grind (arith, common_steps)

-- ---- what vector.rt names

pub ruleset lanes = (differences, maxima, minima, zip2_splat)
