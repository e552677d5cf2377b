-- The names of the plans, and what a plan has written if `decode_owned` returns false.
use Rattle.std.specs.Prelude.{◌≡◌, ℕ, ◌*◌, ◌/◌, List, [], ◌∷◌, ◌||◌, if◌then◌else◌, take, unwrap_or, option_map, bytes_eq, codes}
use Rattle.hex_core.specs.declared.digit.CheckCase.{CheckCase}
use Rattle.hex_core.specs.declared.backend.Backend.{Backend}
use Rattle.hex_core.specs.declared.backend.Kind.{Kind}
use Rattle.hex_core.specs.declared.backend.Kind.TheVariants.{Scalar, Sse41, Avx2, Avx512, Neon, Plain}
use Rattle.hex_core.specs.Search.{first_invalid}
use Rattle.hex_core.specs.Text.{Spells, with_front}

-- the bytes of a kind's name
abbrev pub kind_name : Kind → List ℕ
kind_name Scalar = codes "scalar"
kind_name Sse41 = codes "sse41"
kind_name Avx2 = codes "avx2"
kind_name Avx512 = codes "avx512"
kind_name Neon = codes "neon"
kind_name (Plain width) = codes "plain"

-- the bytes of a plan's name
abbrev pub name_of : Backend → List ℕ
name_of b = kind_name b.0

-- the names of the plans that `backends` returns, in this order
abbrev pub plan_names : List (List ℕ)
plan_names =
    codes "scalar" ∷ codes "sse41" ∷ codes "avx2" ∷ codes "avx512" ∷ codes "neon" ∷ []

-- the number of digits in a block of `decode_owned`, by the name of the plan. A block is written once its own
-- digits are tested. The number is 0 if the plan tests all digits before it writes
abbrev pub owned_block : List ℕ → ℕ
owned_block name =
    if bytes_eq name (codes "avx512") || bytes_eq name (codes "plain") then 128
    else if bytes_eq name (codes "avx2") || bytes_eq name (codes "neon") then 64
    else 0

-- the number of digits in the whole blocks before the first invalid byte. It is 0 if a block has no digits,
-- or if all bytes are valid
abbrev pub digits_before : ℕ → CheckCase → List ℕ → ℕ
digits_before block c s = unwrap_or (option_map (λ f. block * (f / block)) (first_invalid c s)) 0

-- the bytes that the whole blocks before the first invalid byte spell were written, and all others are
-- unchanged
pub record StoresBlocks (block : ℕ) (c : CheckCase) (s old new : List ℕ) : Type 0 where
  pub bytes : List ℕ
  pub spelled : Spells c (take (digits_before block c s) s) bytes
  pub fronted : new ≡ with_front old bytes
