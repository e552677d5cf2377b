-- The checksum of the bytes that digits spell, which is the FNV-1a hash of 64 bits.
use Rattle.std.specs.Prelude.{◌≡◌, ℕ, ◌*◌, ◌%◌, ◌^◌, bit_xor, fold, List, Option, Result, Ok, Err}
use Rattle.std.specs.Io.KnownBytes.{Consumes, IsAtEnd}
use Rattle.hex_core.specs.declared.digit.CheckCase.TheVariants as policy
use Rattle.hex_core.specs.Text.{Spells}
use Rattle.hex_io.specs.Reading.{spaced}
use Rattle.hex_codec.specs.Spaced.{unspaced}
use Rattle.hex_io.specs.Stream.{RefusedBy}
use Rattle.hex_io.specs.declared.stream.StreamFault.{StreamFault}
use Rattle.hex_io.specs.declared.stream.StreamFault.TheVariants.{Codec, Read, Write}

-- the checksum of some bytes and one more, by the checksum of those before it
abbrev pub next_sum : ℕ → ℕ → ℕ
next_sum sum byte = (bit_xor sum byte * 1099511628211) % 2 ^ 64

-- the checksum of some bytes
abbrev pub checksum : List ℕ → ℕ
checksum bytes = fold next_sum 14695981039346656037 bytes

-- the result for a reader: the checksum of the bytes that all its digits spell, or the error of its digits or
-- of a read
abbrev pub Sums : Option (List ℕ) → Option (List ℕ) → Result ℕ StreamFault → Type 0
Sums before left (Ok sum) = (s : List ℕ) × (bytes : List ℕ) × Consumes before left s × IsAtEnd left × Spells policy.None (unspaced s) bytes × (sum ≡ checksum bytes)
Sums before left (Err (Codec e)) = (s : List ℕ) × Consumes before left s × RefusedBy (spaced policy.None) s left e
Sums before left (Err Read) = (s : List ℕ) × Consumes before left s
Sums before left (Err (Write e)) = ⊥
