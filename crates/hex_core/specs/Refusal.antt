-- The errors of encoding and decoding, each in the order in which they are tested.
use Rattle.std.specs.Prelude.{◌≡◌, ◌<◌, ℕ, ◌*◌, ◌/◌, ◌%◌, ◌^◌, ◌==◌, nat_lt, nat_le, not, if◌then◌else◌, List, length}
use Rattle.std.specs.Prelude.{slice_index, Option, Some, None, option_map}
use Rattle.hex_core.specs.declared.digit.CheckCase.{CheckCase}
use Rattle.hex_core.specs.declared.error.Error.{Error}
use Rattle.hex_core.specs.declared.error.Error.TheVariants.{InvalidChar, OutputTooSmall, LengthMismatch, OddLength, Overflow, OutOfMemory}
use Rattle.hex_core.specs.Search.{first_invalid}

-- the error for the first invalid byte, with its index and the byte, or `None` if all bytes are valid
abbrev pub first_invalid_char : CheckCase → List ℕ → Option Error
first_invalid_char c s = option_map (λ f. InvalidChar f (slice_index s f)) (first_invalid c s)

-- the error of decoding into `room` bytes: an odd length, else too little room, else the first invalid byte
abbrev pub decode_refusal : CheckCase → List ℕ → ℕ → Option Error
decode_refusal c s room =
    if length s % 2 == 1 then Some OddLength
    else if nat_lt room (length s / 2) then Some (OutputTooSmall (length s / 2))
    else first_invalid_char c s

-- the error of decoding into enough room: an odd length, else the first invalid byte
abbrev pub source_refusal : CheckCase → List ℕ → Option Error
source_refusal c s =
    if length s % 2 == 1 then Some OddLength
    else first_invalid_char c s

-- the error of decoding into an array of n bytes: an odd length, else a length that does not match, else the
-- first invalid byte
abbrev pub array_refusal : CheckCase → List ℕ → ℕ → Option Error
array_refusal c s n =
    if length s % 2 == 1 then Some OddLength
    else if not (length s / 2 == n) then Some (LengthMismatch n (length s / 2))
    else first_invalid_char c s

-- e is a possible error of decoding into new memory. A failed allocation is one only for a source of even
-- length that is not empty. Any other error must be that of `source_refusal`
abbrev pub OwnedFailure : CheckCase → List ℕ → Error → Type 0
OwnedFailure c s OutOfMemory = (length s % 2 ≡ 0) × (0 < length s)
OwnedFailure c s e = source_refusal c s ≡ Some e

-- the error of writing `len` bytes into `room` bytes: a length that exceeds `usize`, else too little room
abbrev pub room_refusal : ℕ → ℕ → Option Error
room_refusal len room =
    if nat_le (2 ^ 64) len then Some Overflow
    else if nat_lt room len then Some (OutputTooSmall len)
    else None

-- the error of encoding into `room` bytes, by the length of the text, which is two digits for each byte
abbrev pub encode_refusal : List ℕ → ℕ → Option Error
encode_refusal bytes room = room_refusal (2 * length bytes) room
