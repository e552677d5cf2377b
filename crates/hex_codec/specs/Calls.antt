-- What the functions that return arrays, vectors and strings return.
use Rattle.std.specs.Prelude.{◌≡◌, ℕ, ◌+◌, ◌*◌, ◌^◌, ◌<◌, ◌≤◌, Bool, List, ◌++◌, length, Result, Ok, MatchResult, string_bytes, vec_items}
use Rattle.std.specs.Borrow.{MutBor}
use Rattle.std.specs.declared.string.String.{String}
use Rattle.std.specs.declared.vec.Vec.{Vec}
use Rattle.hex_core.specs.declared.digit.CheckCase.{CheckCase}
use Rattle.hex_core.specs.declared.error.Error.{Error}
use Rattle.hex_core.specs.declared.error.Error.TheVariants.{OutOfMemory}
use Rattle.hex_core.specs.Calls.{Answers}
use Rattle.hex_core.specs.Refusal.{OwnedFailure, array_refusal, encode_refusal}
use Rattle.hex_core.specs.Text.{Spells, text, with_front}
use Rattle.hex_codec.specs.Failure.{GrowthFailure}

-- decoding into an array of n bytes: the bytes that the source spells, or the error of `array_refusal`
abbrev pub DecodesArray : CheckCase → List ℕ → ℕ → Result (List ℕ) Error → Type 0
DecodesArray c s n = Answers (array_refusal c s n) (λ bytes. Spells c s bytes)

-- decoding into a new vector: the bytes that the source spells, or an error of `OwnedFailure`
abbrev pub DecodesVec : {A : Type 0} → CheckCase → List ℕ → Result (Vec ℕ A) Error → Type 0
DecodesVec c s result = MatchResult result (λ bytes. Spells c s (vec_items bytes)) (λ e. OwnedFailure c s e)

-- encoding into a string with a capacity of `room` bytes: the text of the list, or the error of
-- `encode_refusal`
abbrev pub EncodesWithin : {S : Type 0} → (S → List ℕ) → Bool → List ℕ → ℕ → Result S Error → Type 0
EncodesWithin shown upper bytes room = Answers (encode_refusal bytes room) (λ string. shown string ≡ text upper bytes)

-- encoding into new memory after `had` bytes. An `Ok` has the text of the list, and the whole length fits
-- `usize`. An error is one of `GrowthFailure`
abbrev pub EncodesBehind : {S : Type 0} → (S → List ℕ) → ℕ → Bool → List ℕ → Result S Error → Type 0
EncodesBehind shown had upper bytes result = MatchResult result
    (λ string. (had + 2 * length bytes < 2 ^ 64) × (shown string ≡ text upper bytes))
    (λ e. GrowthFailure had (2 * length bytes) e)

-- encoding into new memory after a prefix. An `Ok` has the prefix followed by the text, and their length fits
-- `usize`. An error is one of `GrowthFailure`
abbrev pub EncodesPrefixed : {A : Type 0} → List ℕ → Bool → List ℕ → Result (String A) Error → Type 0
EncodesPrefixed prefix upper bytes result = MatchResult result
    (λ string. (length prefix + 2 * length bytes < 2 ^ 64) × (string_bytes string ≡ prefix ++ text upper bytes))
    (λ e. GrowthFailure 0 (length prefix + 2 * length bytes) e)

-- if the source spells a list of n bytes, decoding it into an array of n bytes returns that list
abbrev pub ArrayIsSpelled : CheckCase → List ℕ → ℕ → Result (List ℕ) Error → Type 0
ArrayIsSpelled c s n result = (bytes : List ℕ) → Spells c s bytes → length bytes ≡ n → result ≡ Ok bytes

-- if the source spells a list that fits a destination, decoding writes that list to the start of the
-- destination and returns its length
abbrev pub FrontIsSpelled : CheckCase → List ℕ → List ℕ → List ℕ → Result ℕ Error → Type 0
FrontIsSpelled c s old new result = (bytes : List ℕ) → Spells c s bytes → length bytes ≤ length old
    → (result ≡ Ok (length bytes)) × (new ≡ with_front old bytes)

-- if the source spells a list that fits a destination, decoding returns a part of the destination that holds
-- that list
abbrev pub LentIsSpelled : CheckCase → List ℕ → ℕ → Result (MutBor (List ℕ)) Error → Type 0
LentIsSpelled c s room result = (bytes : List ℕ) → Spells c s bytes → length bytes ≤ room
    → MatchResult result (λ front. front.now ≡ bytes) (λ _. ⊥)

-- if the source spells a list, decoding it into a new vector returns that list, or the allocation failed
abbrev pub VecIsSpelled : {A : Type 0} → CheckCase → List ℕ → Result (Vec ℕ A) Error → Type 0
VecIsSpelled c s result = (bytes : List ℕ) → Spells c s bytes
    → MatchResult result (λ read. vec_items read ≡ bytes) (λ e. e ≡ OutOfMemory)
