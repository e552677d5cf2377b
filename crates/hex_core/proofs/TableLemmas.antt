-- What the entries of the value tables say of a byte.
use Rattle.std.proofs.Common.{refl, Bool, ◌≡◌, ◌≢◌, ℕ, List, ◌+◌, ◌*◌, ◌<◌, get_or, true, false, Option, Some, None}
use Rattle.std.proofs.Common.{is_none, is_some, unwrap_or, ◌∙◌, arith}
use Rattle.std.specs.Prelude.{IsTrue, ◌&&◌, not, ◌==◌}
use Rattle.std.proofs.lemmas.Bool.Decides.{nat_tests}
use Rattle.std.proofs.lemmas.List.FromFn.{get_or-map-range_with_len}
use Rattle.hex_core.specs.declared.digit.CheckCase.{CheckCase}
use Rattle.hex_core.specs.declared.digit.CheckCase.TheVariants as policy
use Rattle.hex_core.specs.Digit.{value}
use Rattle.hex_core.specs.inside.Tables.{value_table}

pub get_or-value_table : (c : CheckCase) (b d : ℕ) → b < 256 → get_or (value_table c) b d ≡ unwrap_or (value c b) 255
unfolding value_table
get_or-value_table c b d h = get_or-map-range_with_len (λ (k : ℕ). unwrap_or (value c k) 255) 0 256 b b d h (omega arith)

-- an entry that is not 255 says that the byte has a value
some_at : (o : Option ℕ) → unwrap_or o 255 ≢ 255 → is_none o ≡ false
some_at (Some v) h = refl
some_at None h = absurd (h refl)

-- the value of a byte that has one is its entry, and is below 16
pub value_at : (c : CheckCase) (b : ℕ) → is_none (value c b) ≡ false → (value c b ≡ Some (unwrap_or (value c b) 255)) × (unwrap_or (value c b) 255 < 16)
value_at policy.None b h = grind (arith, nat_tests)
value_at policy.Lower b h = grind (arith, nat_tests)
value_at policy.Upper b h = grind (arith, nat_tests)

-- an entry of a table that is not 255 says so too
pub admitted-entry : (c : CheckCase) (table : List ℕ) (b : ℕ) → table ≡ value_table c → b < 256 → get_or table b 0 ≢ 255 → is_none (value c b) ≡ false
admitted-entry c table b is h e = some_at (value c b) (λ x. e (rw is (get_or-value_table c b 0 h ∙ x)))

-- the entry of a byte that has a value is that value, and is below 16
abbrev pub IsEntry : CheckCase → List ℕ → ℕ → Type 0
IsEntry c table b = (value c b ≡ Some (get_or table b 0)) × (get_or table b 0 < 16)

pub value-entry : (c : CheckCase) (table : List ℕ) (b : ℕ) → table ≡ value_table c → b < 256 → is_none (value c b) ≡ false → IsEntry c table b
value-entry c table b is h e = rw is (rw (get_or-value_table c b 0 h) (value_at c b e))

-- whether an entry is another one than 255 is whether the byte has a value
tells : (c : CheckCase) (b : ℕ) → not (unwrap_or (value c b) 255 == 255) ≡ is_some (value c b)
tells policy.None b = grind (arith, nat_tests)
tells policy.Lower b = grind (arith, nat_tests)
tells policy.Upper b = grind (arith, nat_tests)

pub entry_tells : (c : CheckCase) (table : List ℕ) (b : ℕ) → table ≡ value_table c → b < 256 → not (get_or table b 0 == 255) ≡ is_some (value c b)
entry_tells c table b is h = rw is (rw (get_or-value_table c b 0 h) (tells c b))

-- the entries of a pair, neither of which is 255
pub pair_entries : (c : CheckCase) (table s : List ℕ) (i : ℕ) → table ≡ value_table c → ((k : ℕ) → get_or s k 0 < 256) → get_or table (get_or s (2 * i) 0) 0 ≢ 255 → get_or table (get_or s (2 * i + 1) 0) 0 ≢ 255
    → IsEntry c table (get_or s (2 * i) 0) × IsEntry c table (get_or s (2 * i + 1) 0)
pair_entries c table s i is byte high low =
    let entry = λ (k : ℕ) (there : get_or table (get_or s k 0) 0 ≢ 255). value-entry c table (get_or s k 0) is (byte k) (admitted-entry c table (get_or s k 0) is (byte k) there) in
    (entry (2 * i) high, entry (2 * i + 1) low)

-- one more entry that is looked up
pub valid-more : (valid : Bool) (entry : ℕ) → IsTrue (valid && not (entry == 255)) → IsTrue valid × (entry ≢ 255)
valid-more true entry h = (refl, λ e. grind (arith, nat_tests))
valid-more false entry h = cc

pub valid-kept : (valid : Bool) (entry : ℕ) → IsTrue valid → entry < 16 → IsTrue (valid && not (entry == 255))
valid-kept true entry h small = grind (arith, nat_tests)
valid-kept false entry h small = cc
