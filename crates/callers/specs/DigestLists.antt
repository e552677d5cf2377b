-- The checksum file of one file.
use Rattle.std.specs.Prelude.{◌≡◌, ◌<◌, ℕ, Bool, false, true, List, [], ◌∷◌, length, map, slice_get, Option, option_map}
use Rattle.std.specs.Prelude.{Result, Ok, Err, MatchResult}
use Rattle.std.specs.Borrow.{Bor}
use Rattle.hex_core.specs.declared.digit.CheckCase.TheVariants as policy
use Rattle.hex_core.specs.Text.{lowercase, with_front}
use Rattle.hex_io.specs.declared.digests.Entry.{Entry}
use Rattle.hex_io.specs.declared.digests.ListFault.{ListFault}
use Rattle.hex_io.specs.declared.digests.ListFault.TheVariants.{OutOfMemory}
use Rattle.hex_io.specs.declared.digests.ListWriteFault.{ListWriteFault}
use Rattle.hex_io.specs.declared.digests.ListWriteFault.TheVariants.{BadName, Write}
use Rattle.hex_io.specs.ListLaws.{entry_parts}
use Rattle.hex_io.specs.Lists.{Lists, ReadFailure, is_bad_name, list_of}
use Rattle.callers.specs.declared.digest.Digest.{Digest}

-- the entry of one file
abbrev pub entry_of : Digest → Bor (List ℕ) → Entry 32
entry_of digest name = record { digest = digest.bytes; binary = false; name = name }

-- the result of writing the list of one entry. After `Ok` it is at the start of the buffer, and is read as
-- the entry. After `BadName` the name is bad, and the buffer is unchanged. After `Write` the list does not
-- fit
abbrev pub WritesChecksum : Entry 32 → List ℕ → List ℕ → Result ℕ ListWriteFault → Type 0
WritesChecksum entry old new (Ok len) = (list : List ℕ) × (list ≡ list_of lowercase (entry ∷ [])) × Lists policy.Lower list (entry ∷ [])
    × (len ≡ length list) × (new ≡ with_front old list)
WritesChecksum entry old new (Err (BadName place)) = (place ≡ 0) × (is_bad_name entry.name.now ≡ true) × (new ≡ old)
WritesChecksum entry old new (Err (Write _)) = (is_bad_name entry.name.now ≡ false) × (length old < length (list_of lowercase (entry ∷ [])))

-- the digest of an entry, by the parts of the entry
abbrev pub digest_of : List ℕ × Bool × List ℕ → Digest
digest_of parts = record { bytes = parts.0 }

-- the digest of the first entry, by the parts of all entries, or `None` if there is no entry
abbrev pub first_digest : List (List ℕ × Bool × List ℕ) → Option Digest
first_digest parts = option_map digest_of (slice_get parts 0)

-- the result of reading the digest of the first entry. After `Ok` the source is a list, and this is the
-- digest of its first entry. An error is one of reading the list, and if the source is a list, it is a failed
-- allocation
abbrev pub ReadsChecksum : List ℕ → Result (Option Digest) ListFault → Type 0
ReadsChecksum s result = MatchResult result
    (λ found. ((entries : List (Entry 32)) × Lists policy.None s entries)
    × ((entries : List (Entry 32)) → Lists policy.None s entries → found ≡ first_digest (map entry_parts entries)))
    (λ e. ReadFailure policy.None 32 s e × ((entries : List (Entry 32)) → Lists policy.None s entries → e ≡ OutOfMemory))
