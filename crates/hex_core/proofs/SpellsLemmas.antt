-- Steps of a list that a text spells, and of a number that keeps it, with the last byte lowest.
use Rattle.std.proofs.Common.{◌≡◌, ℕ, List, ◌+◌, ◌*◌, ◌/◌, ◌%◌, ◌<◌, ◌≤◌, length, get_or, take, refl, arith, zero, suc, ◌-◌, ◌^◌}
use Rattle.std.proofs.Common.{[], ◌∷◌, ◌++◌, ap, ap₂, ◌∙◌}
use Rattle.std.proofs.Math.ListN.{set}
use Rattle.std.proofs.lemmas.List.{get_or-set_same, get_or-set_other, get_or_append_left}
use Rattle.std.proofs.lemmas.List.{get_or-append_right}
use borrow.Author.Count.{below_more}
use Rattle.hex_core.proofs.TableLemmas.{IsEntry}
use Rattle.hex_core.specs.declared.digit.CheckCase.{CheckCase}
use Rattle.hex_core.specs.Text.{Spells, SpellsAt}
use Rattle.std.specs.Int.{byte_at, bytes_high_first}
use Rattle.std.proofs.lemmas.Grind.{common_steps}

-- the bytes below a place are those that their pairs of digits spell
abbrev pub SpellsBelow : CheckCase → List ℕ → List ℕ → ℕ → Type 0
SpellsBelow c s bytes n = (k : ℕ) → k < n → SpellsAt c s bytes k

-- a pair of digits spells a byte wherever both stand
pub spelled_along : {c : CheckCase} {s t old new : List ℕ} {i k : ℕ} → SpellsAt c s old i → get_or t (2 * k) 0 ≡ get_or s (2 * i) 0
    → get_or t (2 * k + 1) 0 ≡ get_or s (2 * i + 1) 0 → get_or new k 0 ≡ get_or old i 0 → SpellsAt c t new k
spelled_along is high low byte = record { high = rw (high, byte) is.high; low = rw (low, byte) is.low }

-- the next byte is packed from the entries of its pair
pub Spells-pair : (c : CheckCase) (table s bytes : List ℕ) (i v : ℕ) → IsEntry c table (get_or s (2 * i) 0) × IsEntry c table (get_or s (2 * i + 1) 0) → i < length bytes
    → v ≡ 16 * get_or table (get_or s (2 * i) 0) 0 + get_or table (get_or s (2 * i + 1) 0) 0
    → SpellsBelow c s bytes i → SpellsBelow c s (set bytes i v) (i + 1)
Spells-pair c table s bytes i v (first, second) h packed below =
    let quotient : v / 16 ≡ get_or table (get_or s (2 * i) 0) 0 = omega (arith, first.1, second.1) in
    let remainder : v % 16 ≡ get_or table (get_or s (2 * i + 1) 0) 0 = omega (arith, first.1, second.1) in
    let e : get_or (set bytes i v) i 0 ≡ v = get_or-set_same bytes i v 0 h in
    below_more (λ (k : ℕ). SpellsAt c s (set bytes i v) k) i
    (λ k lt. spelled_along (below k lt) refl refl (get_or-set_other bytes i k v 0 (λ x. absurd (omega arith))))
    (record { high = rw (e, quotient) first.0; low = rw (e, remainder) second.0 })

-- the front of a list whose first bytes are spelled, by a source that begins like another
pub front_spells : (c : CheckCase) (s t kept : List ℕ) (n : ℕ) → length t ≡ 2 * n → n ≤ length kept → ((k : ℕ) → k < 2 * n → get_or t k 0 ≡ get_or s k 0)
    → SpellsBelow c s kept n → Spells c t (take n kept)
front_spells c s t kept n twice inside same below = grind (arith, common_steps)

-- ---- a number that keeps the list

-- a number of i bytes, and one more byte behind them: where they stand then, and how great it is; and its lowest bytes taken out
pub record Step (i w b left : ℕ) : Type 0 where
  pub shifted : i < 6 → byte_at (suc i) (256 * w + b) ≡ byte_at i w
  pub small : w < 256 ^ i → (256 * w + b < 256 ^ (i + 1)) × (256 * w + b < 2 ^ 64)
  pub taken : left ≡ w / 256 ^ i → (left % 256 ≡ byte_at i w) × (left / 256 ≡ w / 256 ^ (i + 1))

pub step : (i w b left : ℕ) → i < 7 → b < 256 → Step i w b left
step zero w b left lt h = record { shifted = λ few. omega arith; small = λ under. (omega arith, omega arith); taken = λ is. (omega arith, omega arith) }
step (suc zero) w b left lt h = record { shifted = λ few. omega arith; small = λ under. (omega arith, omega arith); taken = λ is. (omega arith, omega arith) }
step (suc (suc zero)) w b left lt h = record { shifted = λ few. omega arith; small = λ under. (omega arith, omega arith); taken = λ is. (omega arith, omega arith) }
step (suc (suc (suc zero))) w b left lt h = record { shifted = λ few. omega arith; small = λ under. (omega arith, omega arith); taken = λ is. (omega arith, omega arith) }
step (suc (suc (suc (suc zero)))) w b left lt h = record { shifted = λ few. omega arith; small = λ under. (omega arith, omega arith); taken = λ is. (omega arith, omega arith) }
step (suc (suc (suc (suc (suc zero))))) w b left lt h = record { shifted = λ few. omega arith; small = λ under. (omega arith, omega arith); taken = λ is. (omega arith, omega arith) }
step (suc (suc (suc (suc (suc (suc zero)))))) w b left lt h = record { shifted = λ few. omega arith; small = λ under. (omega arith, omega arith); taken = λ is. (omega arith, omega arith) }
step (suc (suc (suc (suc (suc (suc (suc i))))))) w b left lt h = absurd (omega arith)

bytes_more : (i w b : ℕ) → b < 256 → i < 7 → bytes_high_first (suc i) (256 * w + b) ≡ bytes_high_first i w ++ b ∷ []
bytes_more zero w b h lt = ap (λ x. x ∷ []) (omega arith)
bytes_more (suc i) w b h lt = ap₂ (λ x r. x ∷ r) ((step i w b 0 (omega arith) h).shifted (omega arith)) (bytes_more i w b h (omega arith))

pub length-bytes : (i w : ℕ) → length (bytes_high_first i w) ≡ i
length-bytes zero w = refl
length-bytes (suc i) w = ap suc (length-bytes i w)

pub word_more : (c : CheckCase) (table s : List ℕ) (i w v : ℕ) → IsEntry c table (get_or s (2 * i) 0) × IsEntry c table (get_or s (2 * i + 1) 0) → i < 7 → v ≡ 16 * get_or table (get_or s (2 * i) 0) 0 + get_or table (get_or s (2 * i + 1) 0) 0
    → SpellsBelow c s (bytes_high_first i w) i → SpellsBelow c s (bytes_high_first (i + 1) (256 * w + v)) (i + 1)
word_more c table s i w v (first, second) few packed below =
    let next : i + 1 ≡ suc i = omega arith in
    let more : bytes_high_first (i + 1) (256 * w + v) ≡ bytes_high_first i w ++ v ∷ [] =
    ap (λ n. bytes_high_first n (256 * w + v)) next ∙ bytes_more i w v (omega (arith, first.1, second.1)) few in
    let long = length-bytes i w in
    rw more (below_more (λ (k : ℕ). SpellsAt c s (bytes_high_first i w ++ v ∷ []) k) i
    (λ k lt. spelled_along (below k lt) refl refl (get_or_append_left (bytes_high_first i w) (v ∷ []) 0 k (omega arith)))
    (let top : i - i ≡ 0 = omega arith in
    let is : get_or (bytes_high_first i w ++ v ∷ []) i 0 ≡ v = get_or-append_right (bytes_high_first i w) (v ∷ []) i i 0 long (omega arith) ∙ ap (λ k. get_or (v ∷ []) k 0) top in
    let quotient : v / 16 ≡ get_or table (get_or s (2 * i) 0) 0 = omega (arith, first.1, second.1) in
    let remainder : v % 16 ≡ get_or table (get_or s (2 * i + 1) 0) 0 = omega (arith, first.1, second.1) in
    record { high = rw (is, quotient) first.0; low = rw (is, remainder) second.0 }))

-- a list of its bytes, from the end
pub are_bytes : (n w : ℕ) (bytes : List ℕ) → length bytes ≡ n → ((k : ℕ) → k < n → get_or bytes (n - 1 - k) 0 ≡ byte_at k w) → bytes ≡ bytes_high_first n w
are_bytes zero w [] long each = refl
are_bytes zero w (b ∷ bytes) long each = absurd (omega arith)
are_bytes (suc n) w [] long each = absurd (omega arith)
are_bytes (suc n) w (b ∷ bytes) long each =
    let top : 0 ≡ suc n - 1 - n = omega arith in
    ap₂ (λ x r. x ∷ r) (ap (λ k. get_or (b ∷ bytes) k 0) top ∙ each n (omega arith))
    (are_bytes n w bytes (omega arith) (λ k lt.
    let next : suc (n - 1 - k) ≡ suc n - 1 - k = omega arith in
    ap (λ i. get_or (b ∷ bytes) i 0) next ∙ each k (omega arith)))
