-- What a function returns and what it writes, with one definition for each kind of function.
use Rattle.std.specs.Prelude.{◌≡◌, ◌≢◌, ℕ, Bool, List, length, Result, MatchResult, Option, Some, None}
use Rattle.std.specs.Bool.{MatchBool}
use Rattle.std.specs.Borrow.{MutBor}
use Rattle.hex_core.specs.declared.digit.CheckCase.{CheckCase}
use Rattle.hex_core.specs.declared.error.Error.{Error}
use Rattle.hex_core.specs.Plans.{StoresBlocks}
use Rattle.hex_core.specs.Refusal.{decode_refusal, encode_refusal}
use Rattle.hex_core.specs.Search.{first_invalid}
use Rattle.hex_core.specs.Text.{Spells, text, with_front}

-- if `refusal` is `None`, the result is `Ok` with a value of which `Holds` is true. Otherwise it is `Err`
-- with that error
abbrev pub Answers : {T E : Type 0} → Option E → (T → Type 0) → Result T E → Type 0
Answers refusal Holds result = MatchResult result (λ value. (refusal ≡ None) × Holds value) (λ e. refusal ≡ Some e)

-- a function that writes to the start of a destination. If `refusal` is `None`, the result is `Ok` with the
-- number of bytes written, `Is` holds of these bytes, and the bytes after them are unchanged. Otherwise the
-- result is `Err` with that error, and the whole destination is unchanged
abbrev pub Fills : {E : Type 0} → Option E → (List ℕ → Type 0) → List ℕ → List ℕ → Result ℕ E → Type 0
Fills refusal Is old new result = MatchResult result
    (λ n. (refusal ≡ None) × ((bytes : List ℕ) × Is bytes × (n ≡ length bytes) × (new ≡ with_front old bytes)))
    (λ e. (refusal ≡ Some e) × (new ≡ old))

-- decoding to the start of a destination: the errors are those of `decode_refusal`, and the bytes written are
-- those that the source spells
abbrev pub Decodes : CheckCase → List ℕ → List ℕ → List ℕ → Result ℕ Error → Type 0
Decodes c s old new result = Fills (decode_refusal c s (length old)) (Spells c s) old new result

-- encoding to the start of a destination: the errors are those of `encode_refusal`, and the bytes written are
-- the text
abbrev pub Encodes : Bool → List ℕ → List ℕ → List ℕ → Result ℕ Error → Type 0
Encodes upper bytes old new result = Fills (encode_refusal bytes (length old)) (λ digits. digits ≡ text upper bytes) old new result

-- decoding that returns the written part of a destination of `room` bytes: the errors are those of
-- `decode_refusal`, and that part is what the source spells
abbrev pub DecodesFront : CheckCase → List ℕ → ℕ → Result (MutBor (List ℕ)) Error → Type 0
DecodesFront c s room = Answers (decode_refusal c s room) (λ front. Spells c s front.now)

-- encoding that returns the written part of a destination of `room` bytes: the errors are those of
-- `encode_refusal`, and that part is the text
abbrev pub EncodesFront : Bool → List ℕ → ℕ → Result (MutBor (List ℕ)) Error → Type 0
EncodesFront upper bytes room = Answers (encode_refusal bytes room) (λ front. front.now ≡ text upper bytes)

-- decoding over a whole destination. If `done` is true, all bytes are valid, and the destination is what the
-- source spells. If it is false, a byte is invalid, and the destination is unchanged
abbrev pub DecodesWhole : CheckCase → List ℕ → List ℕ → List ℕ → Bool → Type 0
DecodesWhole c s old new done = MatchBool done
    ((first_invalid c s ≡ None) × Spells c s new)
    ((first_invalid c s ≢ None) × (new ≡ old))

-- decoding over a whole destination that is discarded if `done` is false. In that case a byte is invalid, and
-- the whole blocks before the first invalid byte were written
abbrev pub DecodesOwned : ℕ → CheckCase → List ℕ → List ℕ → List ℕ → Bool → Type 0
DecodesOwned block c s old new done = MatchBool done
    ((first_invalid c s ≡ None) × Spells c s new)
    ((first_invalid c s ≢ None) × StoresBlocks block c s old new)
