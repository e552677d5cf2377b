-- The value of a hex digit under a policy, and the hex digit of a number.
use Rattle.std.specs.Prelude.{ℕ, ◌+◌, ◌-◌, nat_le, nat_lt, Bool, true, false, ◌&&◌, if◌then◌else◌, Option, Some, None}
use Rattle.hex_core.specs.declared.digit.CheckCase.{CheckCase}
use Rattle.hex_core.specs.declared.digit.CheckCase.TheVariants as policy

-- whether b is at least `low` and at most `high`
abbrev pub between : ℕ → ℕ → ℕ → Bool
between low high b = nat_le low b && nat_le b high

-- whether the policy accepts `a` to `f`
abbrev pub reads_lower : CheckCase → Bool
reads_lower policy.None = true
reads_lower policy.Lower = true
reads_lower policy.Upper = false

-- whether the policy accepts `A` to `F`
abbrev pub reads_upper : CheckCase → Bool
reads_upper policy.None = true
reads_upper policy.Lower = false
reads_upper policy.Upper = true

-- the value of the byte b as a hex digit, or `None` if the policy does not accept b
abbrev pub value : CheckCase → ℕ → Option ℕ
value c b =
    if between 48 57 b then Some (b - 48)  -- `0` to `9`
    else if reads_lower c && between 97 102 b then Some (b - 97 + 10)  -- `a` to `f`
    else if reads_upper c && between 65 70 b then Some (b - 65 + 10)  -- `A` to `F`
    else None

-- the hex digit of a number below 16, whose letters are uppercase if `upper` is true and lowercase otherwise
abbrev pub digit : Bool → ℕ → ℕ
digit upper n = if nat_lt n 10 then 48 + n else if upper then 55 + n else 87 + n

-- the policy that accepts the letters of one case only: uppercase for `true`, lowercase for `false`
abbrev pub strict : Bool → CheckCase
strict true = policy.Upper
strict false = policy.Lower
