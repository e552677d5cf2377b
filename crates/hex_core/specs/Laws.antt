-- Facts that follow from the definitions alone.
use Rattle.std.specs.Prelude.{◌≡◌, ◌<◌, ◌≤◌, ◌↔◌, ◌*◌, ℕ, Bool, List, ◌++◌, length, take}
use Rattle.std.specs.Prelude.{slice_index, slice_range, All, Option, None, Some}
use Rattle.std.specs.Cmp.Lexicographic.{slice_cmp}
use Rattle.std.specs.Ordering.{nat_cmp}
use Rattle.std.specs.Str.{IsAscii, IsUtf8, str_to_ascii_lowercase}
use Rattle.hex_core.specs.declared.digit.CheckCase.{CheckCase}
use Rattle.hex_core.specs.declared.digit.CheckCase.TheVariants as policy
use Rattle.hex_core.specs.declared.error.Error.{Error}
use Rattle.hex_core.specs.declared.error.Error.TheVariants.{InvalidChar}
use Rattle.hex_core.specs.Digit.{strict, value}
use Rattle.hex_core.specs.Search.{AllValid, first_invalid}
use Rattle.hex_core.specs.Text.{Spells, lowercase, text, with_front}
use Rattle.hex_core.specs.Refusal.{source_refusal}

-- every number of the list is below 256
abbrev pub AreBytes : List ℕ → Type 0
AreBytes bytes = All (λ b. b < 256) bytes

-- a text spells at most one list
abbrev pub SpellsOneList : Type 0
SpellsOneList = (c : CheckCase) (s bytes others : List ℕ)
    → Spells c s bytes
    → Spells c s others
    → bytes ≡ others

-- the list that a text spells is a list of bytes
abbrev pub SpellsBytes : Type 0
SpellsBytes = (c : CheckCase) (s bytes : List ℕ) → Spells c s bytes → AreBytes bytes

-- a source has an even length and no invalid byte exactly if it spells some list
abbrev pub AcceptsWhatSpells : Type 0
AcceptsWhatSpells = (c : CheckCase) (s : List ℕ)
    → (source_refusal c s ≡ None) ↔ ((bytes : List ℕ) × Spells c s bytes)

-- the text of a list spells that list, under the policy of the text's own case and under the policy of both
-- cases
abbrev pub DecodingInvertsEncoding : Type 0
DecodingInvertsEncoding = (upper : Bool) (bytes : List ℕ)
    → AreBytes bytes
    → Spells (strict upper) (text upper bytes) bytes × Spells policy.None (text upper bytes) bytes

-- the text of the list that a source spells under a policy of one case is the source
abbrev pub EncodingInvertsStrictDecoding : Type 0
EncodingInvertsStrictDecoding = (upper : Bool) (s bytes : List ℕ)
    → Spells (strict upper) s bytes
    → text upper bytes ≡ s

-- a policy of one case accepts exactly the texts that encoding in this case gives
abbrev pub StrictAcceptsTexts : Type 0
StrictAcceptsTexts = (upper : Bool) (s : List ℕ)
    → (source_refusal (strict upper) s ≡ None) ↔ ((bytes : List ℕ) × AreBytes bytes × (text upper bytes ≡ s))

-- a source spells under the policy of both cases what its lowercased form spells under the policy of
-- lowercase
abbrev pub EitherCaseIsLowercased : Type 0
EitherCaseIsLowercased = (s bytes : List ℕ)
    → Spells policy.None s bytes ↔ Spells policy.Lower (str_to_ascii_lowercase s) bytes

-- the lowercase text of the list that a source spells under the policy of both cases is the lowercased source
abbrev pub EncodingLowercases : Type 0
EncodingLowercases = (s bytes : List ℕ)
    → Spells policy.None s bytes
    → text lowercase bytes ≡ str_to_ascii_lowercase s

-- the text of two lists joined is their two texts joined
abbrev pub JoinedTexts : Type 0
JoinedTexts = (upper : Bool) (front back : List ℕ)
    → text upper (front ++ back) ≡ text upper front ++ text upper back

-- a text has two digits for each byte
abbrev pub TextsAreTwiceAsLong : Type 0
TextsAreTwiceAsLong = (upper : Bool) (bytes : List ℕ) → length (text upper bytes) ≡ 2 * length bytes

-- the text of a list of bytes is ASCII, so it is also UTF-8
abbrev pub TextsAreAscii : Type 0
TextsAreAscii = (upper : Bool) (bytes : List ℕ)
    → AreBytes bytes
    → IsAscii (text upper bytes) × IsUtf8 (text upper bytes)

-- f is the index of the first invalid byte exactly if it lies in the source, the byte there has no value, and
-- all bytes before it have one
abbrev pub FirstInvalidIsFirst : Type 0
FirstInvalidIsFirst = (c : CheckCase) (s : List ℕ) (f : ℕ)
    → (first_invalid c s ≡ Some f) ↔ ((f < length s) × (value c (slice_index s f) ≡ None) × AllValid c s 0 f)

-- a source has no invalid byte exactly if all its bytes have a value
abbrev pub NoneIsInvalidWhereAllAreValid : Type 0
NoneIsInvalidWhereAllAreValid = (c : CheckCase) (s : List ℕ)
    → (first_invalid c s ≡ None) ↔ AllValid c s 0 (length s)

-- a part of a source has no invalid byte exactly if all bytes in its range have a value
abbrev pub PartsAreValidWhereTheirRangesAre : Type 0
PartsAreValidWhereTheirRangesAre = (c : CheckCase) (s : List ℕ) (start end : ℕ)
    → end ≤ length s
    → (first_invalid c (slice_range s start end) ≡ None) ↔ AllValid c s start end

-- if the error is an `InvalidChar`, its index is that of the first invalid byte, which lies in the source,
-- and its byte is the one there, which has no value
abbrev pub NamesFirstInvalid : (CheckCase → List ℕ → Option Error) → Type 0
NamesFirstInvalid refusal = (c : CheckCase) (s : List ℕ) (i b : ℕ)
    → refusal c s ≡ Some (InvalidChar i b)
    → (first_invalid c s ≡ Some i) × (b ≡ slice_index s i) × (value c b ≡ None) × (i < length s)

-- a buffer whose start was replaced by a list begins with that list
abbrev pub FrontsAreKept : Type 0
FrontsAreKept = (old bytes : List ℕ) → take (length bytes) (with_front old bytes) ≡ bytes

-- a buffer whose start was replaced by a list of the buffer's length is that list
abbrev pub WholeFrontsAreAll : Type 0
WholeFrontsAreAll = (old bytes : List ℕ) → length bytes ≡ length old → with_front old bytes ≡ bytes

-- two texts of one case are in the same order as their lists
abbrev pub TextsCompareAsLists : Type 0
TextsCompareAsLists = (upper : Bool) (bytes others : List ℕ)
    → slice_cmp nat_cmp (text upper bytes) (text upper others) ≡ slice_cmp nat_cmp bytes others
