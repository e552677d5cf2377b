-- Facts on digest lists that follow from the definitions alone.
use Rattle.std.specs.Prelude.{◌≡◌, ℕ, Bool, List, length, map, None}
use Rattle.std.specs.List.{AllByRecursion, AllZip}
use Rattle.hex_core.specs.declared.digit.CheckCase.{CheckCase}
use Rattle.hex_core.specs.declared.digit.CheckCase.TheVariants as policy
use Rattle.hex_core.specs.Digit.{strict}
use Rattle.hex_core.specs.Laws.{AreBytes}
use Rattle.hex_io.specs.declared.digests.Entry.{Entry}
use Rattle.hex_io.specs.declared.digests.LineFault.{LineFault}
use Rattle.hex_io.specs.Lists.{FirstFault, Lists, first_bad_name, list_of, with_last_newline}

-- the digest of an entry has N bytes, as the type of an entry says in a program
abbrev pub HasDigest : {N : ℕ} → Entry N → Type 0
HasDigest {N} e = (length e.digest ≡ N) × AreBytes e.digest

-- entries without a bad name have a list that is read as the same entries, under the policy of the case of
-- its digits and under the policy of both cases
abbrev pub ReadingInvertsWriting : Type 0
ReadingInvertsWriting = (N : ℕ) (upper : Bool) (entries : List (Entry N))
    → AllByRecursion HasDigest entries
    → first_bad_name entries ≡ None
    → Lists (strict upper) (list_of upper entries) entries × Lists policy.None (list_of upper entries) entries

-- a source that has a line with a fault is not the list of any entries
abbrev pub FaultyListsNothing : Type 0
FaultyListsNothing = (N : ℕ) (c : CheckCase) (s : List ℕ) (line : ℕ) (why : LineFault) (entries : List (Entry N))
    → FirstFault c N s line why
    → Lists c s entries
    → ⊥

-- two entries have the same digest, mark and name
pub record SameEntry {N : ℕ} (e other : Entry N) : Type 0 where
  pub digest : e.digest ≡ other.digest
  pub binary : e.binary ≡ other.binary
  pub name : e.name.now ≡ other.name.now

-- a source is the list of at most one list of entries. Two such lists have the same length and the same
-- entries
abbrev pub ListsOneList : Type 0
ListsOneList = (N : ℕ) (c : CheckCase) (s : List ℕ) (entries others : List (Entry N))
    → Lists c s entries
    → Lists c s others
    → AllZip SameEntry entries others

-- the digest, mark and name of an entry
abbrev pub entry_parts : {N : ℕ} → Entry N → List ℕ × Bool × List ℕ
entry_parts e = (e.digest, e.binary, e.name.now)

-- two lists of entries that the same source lists have the same digests, marks and names, index by index
abbrev pub ListsSameParts : Type 0
ListsSameParts = (N : ℕ) (c : CheckCase) (s : List ℕ) (entries others : List (Entry N))
    → Lists c s entries
    → Lists c s others
    → map entry_parts entries ≡ map entry_parts others

-- entries that are read under a policy of one case are written in this case as the source, with a newline
-- after its last line
abbrev pub WritingInvertsStrictReading : Type 0
WritingInvertsStrictReading = (N : ℕ) (upper : Bool) (s : List ℕ) (entries : List (Entry N))
    → Lists (strict upper) s entries
    → list_of upper entries ≡ with_last_newline s

-- no name that was read is bad
abbrev pub ReadNamesAreGood : Type 0
ReadNamesAreGood = (N : ℕ) (c : CheckCase) (s : List ℕ) (entries : List (Entry N))
    → Lists c s entries
    → first_bad_name entries ≡ None
