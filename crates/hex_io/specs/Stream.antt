-- What the functions that decode and encode a stream return, and what they change in the reader and the sink.
use Rattle.std.specs.Prelude.{◌≡◌, ◌≤◌, ◌^◌, ℕ, Bool, List, ◌++◌, length, Option, Some, None, Result, Ok, Err}
use Rattle.std.specs.Io.KnownBytes.{Consumes, IsAtEnd}
use Rattle.std.specs.Option.{option_to_list}
use Rattle.hex_core.specs.declared.digit.CheckCase.{CheckCase}
use Rattle.hex_core.specs.declared.error.Error.{Error}
use Rattle.hex_core.specs.declared.error.Error.TheVariants.{OddLength, Overflow}
use Rattle.hex_core.specs.Refusal.{source_refusal}
use Rattle.hex_core.specs.Text.{Spells, text}
use Rattle.hex_codec.specs.declared.group.Group.{Group}
use Rattle.hex_codec.specs.GroupedWriting.{grouped}
use Rattle.hex_io.specs.Reading.{SpellsBut, digits_in, plain, spaced, invalid_read_of}
use Rattle.hex_io.specs.SinkState.{SinkState, Stops, Takes}
use Rattle.hex_io.specs.declared.stream.StreamFault.{StreamFault}
use Rattle.hex_io.specs.declared.stream.decoder.Reading.{Reading}
use Rattle.hex_io.specs.declared.stream.StreamFault.TheVariants.{Codec, Read, Write}

-- the source s has the error e: its length exceeds `usize`, or it ends with a digit without a partner, or e
-- is that of its first byte that should be a digit and is not
abbrev pub RefusedBy : Reading → List ℕ → Option (List ℕ) → Error → Type 0
RefusedBy r s left Overflow = 2 ^ 64 ≤ length s
RefusedBy r s left OddLength = (source_refusal r.case (digits_in r s) ≡ Some OddLength) × (invalid_read_of r s ≡ None) × IsAtEnd left
RefusedBy r s left e = invalid_read_of r s ≡ Some e

-- `Does` holds of what the digits spell, except for a last digit that may wait
pub record Wrote (c : CheckCase) (digits : List ℕ) (Does : List ℕ → Type 0) : Type 0 where
  pub bytes : List ℕ
  pub waiting : Option ℕ
  pub spelled : SpellsBut c digits bytes (option_to_list waiting)
  pub put : Does bytes

-- the most bytes that a decoding asks for in one read. Its chunks are the bytes of one read each
abbrev pub longest_chunk : ℕ
longest_chunk = 16384

-- the sink took what the digits before the last chunk spell. How a reader cuts its bytes is no part of its contract, so
-- of the chunk only its greatest length is stated
pub record WroteBefore (r : Reading) (s : List ℕ) (old new : SinkState) : Type 0 where
  pub fed : List ℕ
  pub chunk : List ℕ
  pub parts : s ≡ fed ++ chunk
  pub short : length chunk ≤ longest_chunk
  pub wrote : Wrote r.case (digits_in r fed) (Takes old new)

-- the result of decoding the bytes s that were read
abbrev pub EndsDecoding : Reading → List ℕ → Option (List ℕ) → SinkState → SinkState → Result ℕ StreamFault → Type 0
-- `Ok`: the reader is at its end, and the sink took the bytes that all digits spell
EndsDecoding r s left old new (Ok count) = (bytes : List ℕ) × Spells r.case (digits_in r s) bytes × (count ≡ length bytes) × Takes old new bytes × IsAtEnd left
-- a read failed: the sink took the bytes of the whole pairs
EndsDecoding r s left old new (Err Read) = Wrote r.case (digits_in r s) (Takes old new)
-- the last digit has no partner: the sink took the bytes of the whole pairs
EndsDecoding r s left old new (Err (Codec OddLength)) = Wrote r.case (digits_in r s) (Takes old new) × RefusedBy r s left OddLength
-- any other error of the source: the sink took the bytes of the whole pairs before the last chunk
EndsDecoding r s left old new (Err (Codec e)) = WroteBefore r s old new × RefusedBy r s left e
-- a put failed: the sink took a first part of the bytes of the whole pairs
EndsDecoding r s left old new (Err (Write _)) = Wrote r.case (digits_in r s) (Stops old new)

-- some bytes were read, and they were decoded as the reading r says
abbrev pub DecodesSource : Reading → Option (List ℕ) → Option (List ℕ) → SinkState → SinkState → Result ℕ StreamFault → Type 0
DecodesSource r before left old new result = (s : List ℕ) × Consumes before left s × EndsDecoding r s left old new result

-- they were decoded as digits alone
abbrev pub DecodesStream : CheckCase → Option (List ℕ) → Option (List ℕ) → SinkState → SinkState → Result ℕ StreamFault → Type 0
DecodesStream c = DecodesSource (plain c)

-- they were decoded as digits with white space among them
abbrev pub DecodesSpacedStream : CheckCase → Option (List ℕ) → Option (List ℕ) → SinkState → SinkState → Result ℕ StreamFault → Type 0
DecodesSpacedStream c = DecodesSource (spaced c)

-- the result of encoding the bytes that were read. `shown` gives the text of a list of bytes
abbrev pub EndsEncoding : (List ℕ → List ℕ) → List ℕ → Option (List ℕ) → SinkState → SinkState → Result ℕ StreamFault → Type 0
-- `Ok`: the reader is at its end, the result is the number of bytes, and the sink took their text
EndsEncoding shown bytes left old new (Ok count) = (count ≡ length bytes) × Takes old new (shown bytes) × IsAtEnd left
-- a read failed: the sink took the text of what was read before
EndsEncoding shown bytes left old new (Err Read) = Takes old new (shown bytes)
-- their number exceeds `usize`: the sink took their text. There is no other error of this kind
EndsEncoding shown bytes left old new (Err (Codec e)) = (e ≡ Overflow) × (2 ^ 64 ≤ length bytes) × Takes old new (shown bytes)
-- a put failed: the sink took a first part of their text
EndsEncoding shown bytes left old new (Err (Write _)) = Stops old new (shown bytes)

-- some bytes were read, and they were encoded as `shown` says
abbrev pub EncodesSource : (List ℕ → List ℕ) → Option (List ℕ) → Option (List ℕ) → SinkState → SinkState → Result ℕ StreamFault → Type 0
EncodesSource shown before left old new result = (bytes : List ℕ) × Consumes before left bytes × EndsEncoding shown bytes left old new result

-- they were encoded as digits alone
abbrev pub EncodesStream : Bool → Option (List ℕ) → Option (List ℕ) → SinkState → SinkState → Result ℕ StreamFault → Type 0
EncodesStream upper = EncodesSource (text upper)

-- they were encoded as a grouped text
abbrev pub EncodesGroupedStream : Group → Bool → Option (List ℕ) → Option (List ℕ) → SinkState → SinkState → Result ℕ StreamFault → Type 0
EncodesGroupedStream group upper = EncodesSource (grouped group upper)
