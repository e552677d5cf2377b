-- The operations of `fhex`: their names, outputs, errors and results.
use Rattle.std.specs.Prelude.{◌≡◌, ◌<◌, ◌%◌, ℕ, Bool, if◌then◌else◌, List, [], ◌∷◌, ◌++◌, length, codes, Option, Some}
use Rattle.std.specs.Prelude.{None, Result, MatchResult}
use Rattle.std.specs.Str.{bytes_eq}
use Rattle.std.specs.Io.BufRead.{strip_last}
use Rattle.hex_core.specs.declared.digit.CheckCase.{CheckCase}
use Rattle.hex_core.specs.declared.digit.CheckCase.TheVariants as policy
use Rattle.hex_core.specs.declared.error.Error.{Error}
use Rattle.hex_core.specs.Text.{Spells, lowercase, text, uppercase}
use Rattle.hex_core.specs.Refusal.{source_refusal}
use Rattle.hex_io.specs.SinkState.{SinkState, Stops, Takes}
use Rattle.hex_program.specs.declared.operation.Op.{Op}
use Rattle.hex_program.specs.declared.operation.Op.TheVariants.{Encode, EncodeUpper, Decode, DecodeLower, DecodeUpper}
use Rattle.hex_program.specs.declared.operation.RunFault.{RunFault}
use Rattle.hex_program.specs.declared.operation.RunFault.TheVariants as fault

-- the operation that a word names, or `None` if it names none
abbrev pub op_of_word : List ℕ → Option Op
op_of_word word =
    if bytes_eq word (codes "encode") then Some Encode
    else if bytes_eq word (codes "encode-upper") then Some EncodeUpper
    else if bytes_eq word (codes "decode") then Some Decode
    else if bytes_eq word (codes "decode-lower") then Some DecodeLower
    else if bytes_eq word (codes "decode-upper") then Some DecodeUpper
    else None

-- the operation that the arguments of the program name, if there is exactly one argument
abbrev pub op_of_words : List (List ℕ) → Option Op
op_of_words [] = None
op_of_words (word ∷ []) = op_of_word word
op_of_words (word ∷ another ∷ rest) = None

-- the input without one newline at its end, if it has one
abbrev pub without_newline : List ℕ → List ℕ
without_newline input = strip_last 10 input

-- the first function of the letter case in which an operation encodes, or the second one of the policy by
-- which it decodes
abbrev pub by_op {ℓ} : {T : Type ℓ} → (Bool → T) → (CheckCase → T) → Op → T
by_op encoding decoding Encode = encoding lowercase
by_op encoding decoding EncodeUpper = encoding uppercase
by_op encoding decoding Decode = decoding policy.None
by_op encoding decoding DecodeLower = decoding policy.Lower
by_op encoding decoding DecodeUpper = decoding policy.Upper

-- the output of an operation: the text of the input and a newline, or the bytes that the input spells without
-- one newline at its end
abbrev pub IsOutput : Op → List ℕ → List ℕ → Type 0
IsOutput = by_op (λ upper input output. output ≡ text upper input ++ 10 ∷ []) (λ case input output. Spells case (without_newline input) output)

-- the error of an operation for an input, or `None` if the input is valid
abbrev pub op_refusal : Op → List ℕ → Option Error
op_refusal = by_op (λ upper input. None) (λ case input. source_refusal case (without_newline input))

-- an allocation may fail only if the operation decodes an even number of digits other than 0
abbrev pub MayWantMemory : Op → List ℕ → Type 0
MayWantMemory = by_op (λ upper input. ⊥) (λ case input. let digits = length (without_newline input) in (digits % 2 ≡ 0) × (0 < digits))

-- what a fault of a run says, by the states of the sink before and after: invalid input and a failed
-- allocation put nothing, and a failed put ends the output early
abbrev pub FailsRun : Op → List ℕ → SinkState → SinkState → RunFault → Type 0
FailsRun op input old new (fault.Codec e) = (op_refusal op input ≡ Some e) × (new ≡ old)
FailsRun op input old new (fault.Write why) = (output : List ℕ) × IsOutput op input output × Stops old new output
FailsRun op input old new fault.OutOfMemory = MayWantMemory op input × (new ≡ old)

-- a run of an operation. After `Ok` the sink took exactly the output, and no put failed. An error is one of
-- `FailsRun`
abbrev pub Runs : Op → List ℕ → SinkState → SinkState → Result (Unit {0}) RunFault → Type 0
Runs op input old new result = MatchResult result
    (λ _. (output : List ℕ) × IsOutput op input output × Takes old new output)
    (λ why. FailsRun op input old new why)
