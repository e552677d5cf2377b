-- What all of `fhex-stream` does with its words and with what it reads, and how it ends.
use Rattle.std.specs.Prelude.{◌≡◌, ◌≢◌, ◌≤◌, ◌^◌, ⊤, ℕ, if◌then◌else◌, List, [], ◌∷◌, ◌++◌, length, codes, Option, Some, None, Result, Ok, Err}
use Rattle.std.specs.Str.{bytes_eq}
use Rattle.std.specs.List.{flat_map, join_by}
use Rattle.std.specs.Io.KnownBytes.{Appends, Consumes, IsAtEnd, Keeps}
use Rattle.hex_core.specs.declared.digit.CheckCase.TheVariants as policy
use Rattle.hex_core.specs.declared.error.Error.{Error}
use Rattle.hex_core.specs.declared.error.Error.TheVariants.{OddLength, Overflow}
use Rattle.hex_core.specs.Text.{Spells, lowercase, text}
use Rattle.hex_codec.specs.GroupedWriting.{pieces}
use Rattle.hex_io.specs.Reading.{spaced}
use Rattle.hex_codec.specs.Spaced.{unspaced}
use Rattle.hex_io.specs.Stream.{RefusedBy, Wrote, longest_chunk}
use Rattle.hex_program.specs.Serving.{WritesPart, Outputs, failure_text, status_after, stream_failure_text}
use Rattle.hex_program.specs.declared.failure.Failure.{Failure}
use Rattle.hex_program.specs.declared.failure.Failure.TheVariants.{Codec, StreamUsage, ReadFailed, WriteFailed}
use Rattle.hex_program.specs.declared.stream.StreamOp.{StreamOp}
use Rattle.hex_program.specs.declared.stream.StreamOp.TheVariants.{Encode, EncodeLines, Decode}

-- the operation that a word names
abbrev pub stream_op_of_word : List ℕ → Option StreamOp
stream_op_of_word word =
    if bytes_eq word (codes "encode") then Some Encode
    else if bytes_eq word (codes "encode-lines") then Some EncodeLines
    else if bytes_eq word (codes "decode") then Some Decode
    else None

-- the operation that the program's words name, if there is exactly one word
abbrev pub stream_op_of_words : List (List ℕ) → Option StreamOp
stream_op_of_words [] = None
stream_op_of_words (word ∷ []) = stream_op_of_word word
stream_op_of_words (word ∷ another ∷ rest) = None

-- a line: the digits of some bytes and a newline
abbrev pub line : List ℕ → List ℕ
line bytes = text lowercase bytes ++ 10 ∷ []

-- the output of an operation: one line, a line for every 30 bytes, or the bytes that the digits of the
-- input spell
abbrev pub IsStreamOutput : StreamOp → List ℕ → List ℕ → Type 0
IsStreamOutput Encode input output = output ≡ line input
IsStreamOutput EncodeLines input output = output ≡ flat_map line (pieces 30 input)
IsStreamOutput Decode input output = Spells policy.None (unspaced input) output

-- a leading part of the output for what was read so far was written. If the operation encodes, it is part of the lines
-- of all these bytes. If it decodes, it is part of what the whole pairs of digits in the first of these bytes spell
abbrev pub Begins : StreamOp → List ℕ → Option (List ℕ) → Option (List ℕ) → Type 0
Begins Encode input held held' = WritesPart held held' (line input)
Begins EncodeLines input held held' = WritesPart held held' (flat_map line (pieces 30 input))
Begins Decode input held held' = (front : List ℕ) × ((rest : List ℕ) × (input ≡ front ++ rest) × Wrote policy.None (unspaced front) (WritesPart held held'))

-- the output of all that was read was written, but for its last newline or a last digit that waits for a partner
abbrev pub WritesRead : StreamOp → List ℕ → Option (List ℕ) → Option (List ℕ) → Type 0
WritesRead Encode input held held' = Appends held held' (text lowercase input)
WritesRead EncodeLines input held held' = Appends held held' (join_by (text lowercase) (10 ∷ []) (pieces 30 input))
WritesRead Decode input held held' = Wrote policy.None (unspaced input) (Appends held held')

-- decoding refuses what was read, for another reason than a last digit without a partner. The index in the error counts
-- from the first byte read. All was decoded and written, except for at most the last 16384 bytes
pub record RefusesStream (input : List ℕ) (left' held held' : Option (List ℕ)) (refusal : Error) : Type 0 where
  pub is_refusal : RefusedBy (spaced policy.None) input left' refusal
  pub front : List ℕ
  pub rest : List ℕ
  pub parts : input ≡ front ++ rest
  pub short : length rest ≤ longest_chunk
  pub wrote : Wrote policy.None (unspaced front) (Appends held held')

-- what was read is refused. If the reason is a last digit without a partner, or too many bytes to encode, the output of
-- all that was read was written
abbrev pub Refuses : StreamOp → List ℕ → Option (List ℕ) → Option (List ℕ) → Option (List ℕ) → Error → Type 0
Refuses Decode input left' held held' OddLength = RefusedBy (spaced policy.None) input left' OddLength × WritesRead Decode input held held'
Refuses Decode input left' held held' refusal = RefusesStream input left' held held' refusal
Refuses op input left' held held' refusal = (refusal ≡ Overflow) × (2 ^ 64 ≤ length input) × WritesRead op input held held'

-- how an operation ends: all was read, and exactly its output was written; what was read is refused; a read failed, and
-- nothing of what was read was left out; or a write failed
abbrev pub EndsStreamOp : StreamOp → List ℕ → Option (List ℕ) → Option (List ℕ) → Option (List ℕ) → Result (Unit {0}) Failure → Type 0
EndsStreamOp op input left' held held' (Ok done) = IsAtEnd left' × ((output : List ℕ) × IsStreamOutput op input output × Appends held held' output)
EndsStreamOp op input left' held held' (Err (Codec refusal)) = Refuses op input left' held held' refusal
EndsStreamOp op input left' held held' (Err ReadFailed) = WritesRead op input held held'
EndsStreamOp op input left' held held' (Err WriteFailed) = ⊤
EndsStreamOp op input left' held held' (Err failure) = ⊥

-- some input was read, and however the operation ends, a leading part of the right output was written
pub record ServesStreamOp (op : StreamOp) (left left' held held' : Option (List ℕ)) (ended : Result (Unit {0}) Failure) : Type 0 where
  pub input : List ℕ
  pub read : Consumes left left' input
  pub begun : Begins op input held held'
  pub end : EndsStreamOp op input left' held held' ended

-- what `--version` prints
abbrev pub version_text : List ℕ
version_text = codes "fhex-stream 1.0.0"

-- what the words ask for: an operation; the usage or the version on standard output, for which nothing is read; or neither,
-- for which nothing is read and no output written
pub record AnswersWords (words : List (List ℕ)) (left left' held held' : Option (List ℕ)) (ended : Result (Unit {0}) Failure) : Type 0 where
  pub operation : (op : StreamOp) → stream_op_of_words words ≡ Some op → ServesStreamOp op left left' held held' ended
  pub help : words ≡ codes "--help" ∷ [] → (left' ≡ left) × Outputs (failure_text StreamUsage ++ 10 ∷ []) held held' ended
  pub version : words ≡ codes "--version" ∷ [] → (left' ≡ left) × Outputs (version_text ++ 10 ∷ []) held held' ended
  pub usage : (stream_op_of_words words ≡ None) × (words ≢ codes "--help" ∷ []) × (words ≢ codes "--version" ∷ []) → (ended ≡ Err StreamUsage) × (left' ≡ left) × (held' ≡ held)

-- what the program wrote to its second output: nothing, or a leading part of the failure's line
abbrev pub StreamSays : Option (List ℕ) → Option (List ℕ) → Result (Unit {0}) Failure → Type 0
StreamSays said said' (Ok done) = Keeps said said'
StreamSays said said' (Err failure) = WritesPart said said' (stream_failure_text failure ++ 10 ∷ [])

-- the program: it does what its words ask for, and ends with the status and the message of how that ended
pub record ServesStream (words : List (List ℕ)) (left left' held held' said said' : Option (List ℕ)) (status : ℕ) : Type 0 where
  pub ended : Result (Unit {0}) Failure
  pub is_status : status ≡ status_after ended
  pub message : StreamSays said said' ended
  pub answer : AnswersWords words left left' held held' ended
