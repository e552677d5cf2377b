-- What the functions on blocks of bytes promise of each byte.
use Rattle.std.specs.Prelude.{◌≡◌, ◌↔◌, ℕ, ◌+◌, ◌*◌, ◌<◌, ◌≤◌, List, EachIndex, IfSome, IsSome, MatchOption, Option, slice_index}
use Rattle.std.specs.Int.{bit_at}
use Rattle.hex_core.specs.declared.digit.CheckCase.{CheckCase}
use Rattle.hex_core.specs.Digit.{value}

-- bit i of a mask is set exactly if byte i is valid
abbrev pub Admits : CheckCase → List ℕ → ℕ → Type 0
Admits c bytes mask = EachIndex bytes (λ i. (bit_at mask i ≡ 1) ↔ IsSome (value c (slice_index bytes i)))

-- n is the value o of a byte, or a number of at least 16 if the byte has no value
abbrev pub IsNibble : Option ℕ → ℕ → Type 0
IsNibble o n = MatchOption o (16 ≤ n) (λ v. n ≡ v)

-- each number is the value of its byte, or at least 16 if the byte has no value
abbrev pub AreNibbles : CheckCase → List ℕ → List ℕ → Type 0
AreNibbles c bytes nibbles = EachIndex bytes (λ i. IsNibble (value c (slice_index bytes i)) (slice_index nibbles i))

-- each number is below 16
abbrev pub AreSmall : List ℕ → Type 0
AreSmall nibbles = EachIndex nibbles (λ i. slice_index nibbles i < 16)

-- each byte is made of two nibbles, of which the first is its high half
abbrev pub ArePacked : List ℕ → List ℕ → Type 0
ArePacked nibbles bytes = EachIndex bytes (λ i. slice_index bytes i ≡ 16 * slice_index nibbles (2 * i) + slice_index nibbles (2 * i + 1))

-- each number is the value of its byte, if the byte has a value
abbrev pub AreValues : CheckCase → List ℕ → List ℕ → Type 0
AreValues c bytes nibbles = EachIndex bytes (λ i. IfSome (value c (slice_index bytes i)) (λ v. slice_index nibbles i ≡ v))

-- each number in `checked` is below 128 exactly if its byte is valid
abbrev pub AreChecked : CheckCase → List ℕ → List ℕ → Type 0
AreChecked c bytes checked = EachIndex bytes (λ i. (slice_index checked i < 128) ↔ IsSome (value c (slice_index bytes i)))
