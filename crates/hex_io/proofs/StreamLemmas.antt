-- Streams that are read chunk by chunk.
use Rattle.std.proofs.Common.{◌≡◌, ◌∙◌, arith, inl, inr, ℕ, ◌+◌, ◌%◌, ◌^◌, ◌≤◌, Bool, true, false, List, ◌++◌, length, length-append}
use Rattle.std.proofs.Common.{slice_index, Option, Some, None, refl, sym}
use Rattle.std.specs.Prelude.{◌==◌, if◌then◌else◌, option_map}
use Rattle.std.specs.Io.KnownBytes.{IsAtEnd}
use Rattle.std.proofs.lemmas.Bool.{cases_lt}
use Rattle.std.proofs.lemmas.Bool.Decides.{nat_tests}
use Rattle.hex_core.specs.declared.error.Error.{Error}
use Rattle.hex_core.specs.declared.error.Error.TheVariants.{InvalidChar, OddLength, Overflow}
use Rattle.hex_core.specs.Search.{first_invalid}
use Rattle.hex_io.specs.Decoder.{feed_refusal, pairs_more}
use Rattle.hex_io.specs.Reading.{digits_in, first_invalid_read, invalid_read_of}
use Rattle.hex_io.proofs.DecoderLemmas.{none-refused, refused-byte}
use Rattle.hex_io.specs.Stream.{RefusedBy}
use Rattle.hex_io.specs.declared.stream.decoder.Reading.{Reading}

-- why a chunk that has room is refused: there are too many bytes in all, or one is invalid
pub refused-for : (P : Error → Type 0) (r : Reading) (fed src : List ℕ) (room : ℕ) (e : Error) → pairs_more (length (digits_in r fed)) (length (digits_in r src)) ≤ room
    → feed_refusal r fed src room ≡ Some e
    → (2 ^ 64 ≤ length (fed ++ src) → P Overflow) → ((i b : ℕ) → invalid_read_of r (fed ++ src) ≡ Some (InvalidChar i b) → P (InvalidChar i b)) → P e
refused-for P r fed src room e fits refused all bad = elim (cases_lt (length fed + length src) (2 ^ 64)) [
  | inl few ↦ let byte = sym (refused-byte r fed src room few fits) ∙ refused in by_first (first_invalid_read r (fed ++ src)) byte byte
  | inr many ↦ let is : e ≡ Overflow = grind (arith, nat_tests, many, refused) in rw is (all (simp length-append many))
]
  where
    by_first : (o : Option ℕ) → option_map (λ i. InvalidChar i (slice_index (fed ++ src) i)) o ≡ Some e → invalid_read_of r (fed ++ src) ≡ Some e → P e
    by_first (Some i) named byte = let is : e ≡ InvalidChar i (slice_index (fed ++ src) i) = cc named in rw is (bad i _ (rw is at byte))
    by_first None named byte = absurd (cc named)

-- and what the end is refused for, where all digits are valid: the last one
pub refused-end : (P : Error → Type 0) (r : Reading) (s : List ℕ) (left : Option (List ℕ)) (e : Error) → first_invalid r.case (digits_in r s) ≡ None
    → (if length (digits_in r s) % 2 == 1 then Some OddLength else None) ≡ Some e → IsAtEnd left → (RefusedBy r s left OddLength → P OddLength) → P e
refused-end P r s left e valid odd at_end last = by_length (length (digits_in r s) % 2 == 1) refl odd
  where
    by_length : (t : Bool) → (length (digits_in r s) % 2 == 1) ≡ t → (if t then Some OddLength else None) ≡ Some e → P e
    by_length true is named = let odd : e ≡ OddLength = cc named in rw odd (last (rw is refl, none-refused r s valid, at_end))
    by_length false is named = absurd (cc named)
