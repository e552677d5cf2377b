-- There is a number exactly where all digits are valid.
use Rattle.std.proofs.Common.{◌≡◌, ℕ, ◌/◌, List, length, refl, Option, Some, None}
use Rattle.std.specs.Prelude.{◌≢◌, IsTrue, MatchOption, is_some}
use Rattle.std.specs.Int.{bytes_high_first}
use Rattle.hex_core.specs.declared.digit.CheckCase.{CheckCase}
use Rattle.hex_core.specs.Search.{first_invalid}
use Rattle.hex_core.specs.Text.{Spells}
use Rattle.hex_core.proofs.LawProofs.{valid-spelled}
use Rattle.hex_core.proofs.look_ups.are_digits.Goals as goal

told : (c : CheckCase) (s : List ℕ) (o : Option ℕ) → MatchOption o (first_invalid c s ≢ None) (λ word. Spells c s (bytes_high_first (length s / 2) word))
    → (IsTrue (is_some o) → first_invalid c s ≡ None) × (first_invalid c s ≡ None → IsTrue (is_some o))
told c s None h = (λ t. cc, λ e. absurd (h e))
told c s (Some word) h = (λ t. valid-spelled c s _ h, λ e. refl)

pub returns : goal.returns
returns c = record { valid = rw c.is_some.ensures (told c.args.case c.args.src.now c.word_of.result c.word_of.ensures) }
