-- Digits that come in parts.
use Rattle.std.specs.Prelude.{◌≡◌, ℕ, ◌%◌, ◌==◌, if◌then◌else◌, List, [], ◌++◌, length, Option, None, Some, Result, MatchResult}
use Rattle.std.specs.Option.{option_or}
use Rattle.hex_core.specs.declared.digit.CheckCase.TheVariants as policy
use Rattle.hex_core.specs.declared.error.Error.{Error}
use Rattle.hex_core.specs.declared.error.Error.TheVariants.{OddLength}
use Rattle.hex_core.specs.Text.{with_front}
use Rattle.hex_io.specs.Decoder.{PairsSpell, feed_refusal, position_of, reading_of}
use Rattle.hex_io.specs.Reading.{plain}
use Rattle.hex_io.specs.declared.stream.decoder.Decoder.{Decoder}

-- the error of decoding two parts: that of the first part, else that of the second part, else an odd number
-- of digits
abbrev pub parts_refusal : List ℕ → List ℕ → ℕ → ℕ → Option Error
parts_refusal first second front back = option_or (feed_refusal (plain policy.None) [] first front)
    (option_or (feed_refusal (plain policy.None) first second back) (if length (first ++ second) % 2 == 1 then Some OddLength else None))

-- a decoder that was fed anything is fed more. It had written what the whole pairs of its digits spell. After
-- `Ok` this holds again, with the bytes that are now at the start of the destination. An error changes
-- nothing
abbrev pub DecodesMore : Decoder → Decoder → List ℕ → List ℕ → List ℕ → Result ℕ Error → Type 0
DecodesMore decoder decoder' more old new result = let r = reading_of decoder in
    (fed : List ℕ) × (written : List ℕ) × (position_of decoder ≡ length fed) × PairsSpell r fed written × MatchResult result
    (λ n. (bytes : List ℕ) × (n ≡ length bytes) × (new ≡ with_front old bytes)
    × (position_of decoder' ≡ length (fed ++ more)) × PairsSpell r (fed ++ more) (written ++ bytes))
    (λ e. (feed_refusal r fed more (length old) ≡ Some e) × (new ≡ old) × (decoder' ≡ decoder))
