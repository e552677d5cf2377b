-- What a string holds after digits were appended.
use Rattle.std.specs.Prelude.{◌≡◌, ℕ, ◌+◌, ◌*◌, ◌^◌, ◌<◌, ◌≤◌, Bool, List, ◌++◌, length, Result, MatchResult, IsOk}
use Rattle.std.specs.Prelude.{OnOk, string_bytes, string_len, string_capacity}
use Rattle.std.specs.declared.string.String.{String}
use Rattle.hex_core.specs.declared.error.Error.{Error}
use Rattle.hex_core.specs.Text.{text}
use Rattle.hex_codec.specs.Calls.{EncodesBehind}
use Rattle.hex_codec.specs.Failure.{GrowthFailure}

-- a string to which the digits of a list were appended. After an `Ok` it is its old text followed by the
-- digits, and after an error it is its old text alone. Its capacity never falls
abbrev pub AppendsDigits : {A T : Type 0} → Bool → List ℕ → Result T Error → String A → String A → Type 0
AppendsDigits upper bytes result old new =
    MatchResult result
    (λ _. string_bytes new ≡ string_bytes old ++ text upper bytes)
    (λ _. string_bytes new ≡ string_bytes old)
    × OnOk result (string_len new ≡ string_len old + 2 * length bytes)
    × (string_capacity old ≤ string_capacity new)

-- the digits of a list are appended to `had` bytes. An `Ok` means that the whole length fits `usize`, and an
-- error is one of `GrowthFailure`
abbrev pub FitsBehind : {T : Type 0} → ℕ → List ℕ → Result T Error → Type 0
FitsBehind had bytes result = MatchResult result (λ _. had + 2 * length bytes < 2 ^ 64) (λ e. GrowthFailure had (2 * length bytes) e)

-- if the digits fit the spare capacity of the string, there is no error
abbrev pub SucceedsInSpareRoom : {A T : Type 0} → List ℕ → String A → Result T Error → Type 0
SucceedsInSpareRoom bytes old result = string_len old + 2 * length bytes ≤ string_capacity old → IsOk result

-- an append that returns its digits, or an error of `GrowthFailure`. There is none if the digits fit the
-- spare capacity
abbrev pub AnswersSuffix : {A S : Type 0} → (S → List ℕ) → Bool → List ℕ → String A → Result S Error → Type 0
AnswersSuffix shown upper bytes old result = EncodesBehind shown (string_len old) upper bytes result × SucceedsInSpareRoom bytes old result
