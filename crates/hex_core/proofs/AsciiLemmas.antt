-- The text of a list of bytes is ASCII.
use Rattle.std.proofs.Common.{ℕ, suc, ◌/◌, ◌%◌, ◌<◌, Bool, true, false, List, [], ◌∷◌, get_or, arith, IsAscii}
use Rattle.std.proofs.lemmas.Bool.Decides.{nat_tests}
use Rattle.std.proofs.lemmas.Grind.{common_steps}
use Rattle.std.proofs.lemmas.Str.Ascii.{IsAscii-nil, IsAscii-cons}
use Rattle.std.specs.Str.{IsUtf8}
use Rattle.std.proofs.lemmas.Str.{IsUtf8-from_ascii}
use Rattle.hex_core.specs.Digit.{digit}
use Rattle.hex_core.specs.Laws.{AreBytes, TextsAreAscii}
use Rattle.hex_core.specs.Text.{text}

digit_below : (upper : Bool) (n : ℕ) → n < 16 → digit upper n < 128
digit_below true n h = grind (arith, nat_tests)
digit_below false n h = grind (arith, nat_tests)

pub IsAscii-text : (upper : Bool) (bytes : List ℕ) → ((i : ℕ) → get_or bytes i 0 < 256) → IsAscii (text upper bytes)
IsAscii-text upper [] range = IsAscii-nil
IsAscii-text upper (b ∷ bytes) range =
    let byte : b < 256 = range 0 in
    let rest : IsAscii (text upper bytes) = IsAscii-text upper bytes (λ i. range (suc i)) in
    IsAscii-cons (digit upper (b / 16)) (digit upper (b % 16) ∷ text upper bytes) (digit_below upper (b / 16) (omega arith)) (IsAscii-cons (digit upper (b % 16)) (text upper bytes) (digit_below upper (b % 16) (omega arith)) rest)

pub IsUtf8-text : (upper : Bool) (bytes : List ℕ) → ((i : ℕ) → get_or bytes i 0 < 256) → IsUtf8 (text upper bytes)
IsUtf8-text upper bytes range = IsUtf8-from_ascii _ (IsAscii-text upper bytes range)

-- each byte of a list of bytes, and the default
in_range : (bytes : List ℕ) → AreBytes bytes → (i : ℕ) → get_or bytes i 0 < 256
in_range bytes all i = grind (arith, common_steps)

pub ascii_and_utf8 : TextsAreAscii
ascii_and_utf8 upper bytes all = (IsAscii-text upper bytes (in_range bytes all), IsUtf8-text upper bytes (in_range bytes all))
