-- What all of `fhex` does with its words and with what it reads, and how it ends.
use Rattle.std.specs.Prelude.{◌≡◌, ◌≢◌, ◌⊎◌, ◌<◌, ◌≤◌, ⊤, List, ℕ, [], ◌∷◌, ◌++◌, length, codes, Option, Some, None, IfSome}
use Rattle.std.specs.Prelude.{Result, Ok, Err}
use Rattle.std.specs.Io.KnownBytes.{Appends, Consumes, IsAtEnd, Keeps}
use Rattle.hex_core.specs.Message.{error_text}
use Rattle.hex_core.specs.declared.error.Error.{Error}
use Rattle.hex_program.specs.Operations.{IsOutput, op_of_words, op_refusal}
use Rattle.hex_program.specs.declared.operation.Op.{Op}
use Rattle.hex_program.specs.declared.failure.Failure.{Failure}
use Rattle.hex_program.specs.declared.failure.Failure.TheVariants.{Codec, Usage, StreamUsage, ReadFailed, WriteFailed}
use Rattle.hex_program.specs.declared.failure.Failure.TheVariants.{OutOfMemory, InputTooLong, NotUtf8}

-- the exit status of a failure
abbrev pub status_of : Failure → ℕ
status_of (Codec e) = 1
status_of Usage = 2
status_of StreamUsage = 2
status_of _ = 3

-- what a failure of `fhex` prints, byte for byte
abbrev pub failure_text : Failure → List ℕ
failure_text (Codec e) = error_text e
failure_text Usage = codes "usage: fhex encode|encode-upper|decode|decode-lower|decode-upper|vectors"
failure_text StreamUsage = codes "usage: fhex-stream encode|encode-lines|decode"
failure_text ReadFailed = codes "read failed"
failure_text NotUtf8 = codes "read failed"
failure_text WriteFailed = codes "write failed"
failure_text OutOfMemory = codes "out of memory"
failure_text InputTooLong = codes "input too long"

-- what a failure of `fhex-stream` prints: its name and the failure, or the usage
abbrev pub stream_failure_text : Failure → List ℕ
stream_failure_text StreamUsage = failure_text StreamUsage
stream_failure_text NotUtf8 = codes "fhex-stream: an argument is not UTF-8"
stream_failure_text failure = codes "fhex-stream: " ++ failure_text failure

-- the exit status of a program that ended well or with a failure
abbrev pub status_after : Result (Unit {0}) Failure → ℕ
status_after (Ok done) = 0
status_after (Err failure) = status_of failure

-- a leading part of bs was written
abbrev pub WritesPart : Option (List ℕ) → Option (List ℕ) → List ℕ → Type 0
WritesPart held held' bs = (front : List ℕ) × ((rest : List ℕ) × (front ++ rest ≡ bs) × Appends held held' front)

-- what such a program wrote to its second output: nothing, or a leading part of the failure's line
abbrev pub Says : Option (List ℕ) → Option (List ℕ) → Result (Unit {0}) Failure → Type 0
Says said said' (Ok done) = Keeps said said'
Says said said' (Err failure) = WritesPart said said' (failure_text failure ++ 10 ∷ [])

-- a text was written: all of it, or a leading part of it, and then a write or the flush failed
abbrev pub Outputs : List ℕ → Option (List ℕ) → Option (List ℕ) → Result (Unit {0}) Failure → Type 0
Outputs text held held' (Ok done) = Appends held held' text
Outputs text held held' (Err failure) = (failure ≡ WriteFailed) × WritesPart held held' text

-- the greatest length of an input, in bytes
abbrev pub input_limit : ℕ
input_limit = 16777216

-- all of an input was read, and it is at most as long as the limit
abbrev pub ReadsAll : Option (List ℕ) → Option (List ℕ) → List ℕ → Type 0
ReadsAll left left' input = Consumes left left' input × IsAtEnd left' × (length input ≤ input_limit)

-- why an operation may fail before it writes
abbrev pub FailsBefore : Option (List ℕ) → Failure → Type 0
FailsBefore left ReadFailed = ⊤
FailsBefore left OutOfMemory = ⊤
FailsBefore left InputTooLong = IfSome left (λ bytes. input_limit < length bytes)
FailsBefore left failure = ⊥

-- a leading part of the input was read
abbrev pub ReadsSome : Option (List ℕ) → Option (List ℕ) → Type 0
ReadsSome left left' = (input : List ℕ) × Consumes left left' input

-- the input was read, and `Wrote` holds of the operation's output
pub record Served (op : Op) (left left' : Option (List ℕ)) (Wrote : List ℕ → Type 0) : Type 0 where
  pub input : List ℕ
  pub output : List ℕ
  pub read : ReadsAll left left' input
  pub is_output : IsOutput op input output
  pub wrote : Wrote output

-- the input was read and is refused, and nothing was written
pub record Refused (op : Op) (left left' held held' : Option (List ℕ)) (refusal : Error) : Type 0 where
  pub input : List ℕ
  pub read : ReadsAll left left' input
  pub is_refusal : op_refusal op input ≡ Some refusal
  pub kept : Keeps held held'

-- how an operation ends: exactly its output was written; the input is refused; a leading part of the output was
-- written; or some input was read, and nothing was written
abbrev pub EndsOp : Op → Option (List ℕ) → Option (List ℕ) → Option (List ℕ) → Option (List ℕ) → Result (Unit {0}) Failure → Type 0
EndsOp op left left' held held' (Ok done) = Served op left left' (Appends held held')
EndsOp op left left' held held' (Err (Codec refusal)) = Refused op left left' held held' refusal
EndsOp op left left' held held' (Err WriteFailed) = Served op left left' (WritesPart held held')
EndsOp op left left' held held' (Err failure) = ReadsSome left left' × FailsBefore left failure × Keeps held held'

-- the status of the stored vectors: 1 says that one of them failed, which is no failure of the program
abbrev pub VectorsStatus : ℕ → Result (Unit {0}) Failure → Type 0
VectorsStatus status (Ok done) = (status ≡ 0) ⊎ (status ≡ 1)
VectorsStatus status (Err failure) = (status ≡ 3) × ((failure ≡ OutOfMemory) ⊎ (failure ≡ WriteFailed))

abbrev pub ServesVectors : Option (List ℕ) → Option (List ℕ) → ℕ → Type 0
ServesVectors said said' status = (ended : Result (Unit {0}) Failure) × Says said said' ended × VectorsStatus status ended

-- the program, by its words: an operation; the stored vectors, for which nothing is read; or words that name neither,
-- for which nothing is read and no output written
pub record Serves (words : List (List ℕ)) (left left' held held' said said' : Option (List ℕ)) (status : ℕ) : Type 0 where
  pub ended : Result (Unit {0}) Failure
  pub message : Says said said' ended
  pub operation : (op : Op) → op_of_words words ≡ Some op → (status ≡ status_after ended) × EndsOp op left left' held held' ended
  pub vectors : words ≡ codes "vectors" ∷ [] → (left' ≡ left) × VectorsStatus status ended
  pub usage : (op_of_words words ≡ None) × (words ≢ codes "vectors" ∷ []) → (ended ≡ Err Usage) × (left' ≡ left) × (held' ≡ held) × (status ≡ 2)
