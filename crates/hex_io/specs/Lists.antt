-- Digest lists. There is a line for each entry, with the digits of its digest, a space, its mark and its name.
use Rattle.std.specs.Prelude.{◌≡◌, ◌<◌, ℕ, ◌+◌, ◌-◌, ◌*◌, ◌==◌, nat_lt, Bool, ◌&&◌, ◌||◌, if◌then◌else◌, List, [], ◌∷◌}
use Rattle.std.specs.Prelude.{◌++◌, length, take, drop, slice_index, position, Option, Some, None}
use Rattle.std.specs.List.{AllByRecursion, AllZip, flat_map, list_any, slice_split}
use Rattle.hex_core.specs.declared.digit.CheckCase.{CheckCase}
use Rattle.hex_core.specs.Search.{first_invalid}
use Rattle.hex_core.specs.Text.{Spells, text}
use Rattle.hex_io.specs.declared.digests.Entry.{Entry}
use Rattle.hex_io.specs.declared.digests.LineFault.{LineFault}
use Rattle.hex_io.specs.declared.digests.LineFault.TheVariants.{ShortLine, InvalidByte, BadMark}
use Rattle.hex_io.specs.declared.digests.ListFault.{ListFault}
use Rattle.hex_io.specs.declared.digests.ListFault.TheVariants.{Line, OutOfMemory}

-- the mark of an entry: `*` if it is binary, otherwise a space
abbrev pub mark : Bool → ℕ
mark binary = if binary then 42 else 32

-- the line of an entry without its newline: the digits of its digest, a space, its mark and its name
abbrev pub line_of : {N : ℕ} → Bool → Entry N → List ℕ
line_of upper e = text upper e.digest ++ (32 ∷ mark e.binary ∷ e.name.now)

-- the list of some entries: the line of each, followed by a newline
abbrev pub list_of : {N : ℕ} → Bool → List (Entry N) → List ℕ
list_of upper entries = flat_map (λ e. line_of upper e ++ (10 ∷ [])) entries

-- the lines, without the last one if that is empty
abbrev pub without_empty_end : List (List ℕ) → List (List ℕ)
without_empty_end ([] ∷ []) = []
without_empty_end (line ∷ lines) = line ∷ without_empty_end lines
without_empty_end [] = []

-- the lines of a source: the parts between its newlines, without an empty one after the last newline
abbrev pub lines_of : List ℕ → List (List ℕ)
lines_of s = without_empty_end (slice_split (λ b. b == 10) s)

-- the line is that of the entry: digits that spell its digest, a space, its mark, and a name that is not
-- empty
pub record LineIs {N : ℕ} (c : CheckCase) (line : List ℕ) (e : Entry N) : Type 0 where
  pub spelled : Spells c (take (2 * N) line) e.digest
  pub behind : drop (2 * N) line ≡ 32 ∷ mark e.binary ∷ e.name.now
  pub named : 0 < length e.name.now

-- the source is the list of the entries: it has one line for each entry, in order
abbrev pub Lists : {N : ℕ} → CheckCase → List ℕ → List (Entry N) → Type 0
Lists c s entries = AllZip (LineIs c) (lines_of s) entries

-- whether a line has a space and a mark after the digits of n bytes
abbrev pub has_mark : ℕ → List ℕ → Bool
has_mark n line = slice_index line (2 * n) == 32 && (slice_index line (2 * n + 1) == 32 || slice_index line (2 * n + 1) == 42)

-- the fault of a line that is long enough, by the index of its first invalid digit: that digit, else its mark
abbrev pub fault_in : ℕ → List ℕ → Option ℕ → Option LineFault
fault_in n line (Some i) = Some (InvalidByte i (slice_index line i))
fault_in n line None = if has_mark n line then None else Some BadMark

-- the fault of a line for a digest of n bytes: too short for the digits, a space, a mark and a name, else
-- `fault_in`
abbrev pub line_fault : CheckCase → ℕ → List ℕ → Option LineFault
line_fault c n line = if nat_lt (length line) (2 * n + 3) then Some ShortLine else fault_in n line (first_invalid c (take (2 * n) line))

-- `line` is the number, counted from 1, of the first line of a source with a fault, and `why` is that fault
pub record FirstFault (c : CheckCase) (n : ℕ) (s : List ℕ) (line : ℕ) (why : LineFault) : Type 0 where
  pub before : List (List ℕ)
  pub here : List ℕ
  pub after : List (List ℕ)
  pub lines : lines_of s ≡ before ++ here ∷ after
  pub clear : AllByRecursion (λ line. line_fault c n line ≡ None) before
  pub count : line ≡ length before + 1
  pub fault : line_fault c n here ≡ Some why

-- an error of reading a source: its first line with a fault, or a failed allocation. An allocation is
-- possible only after the first line was read without a fault
abbrev pub ReadFailure : CheckCase → ℕ → List ℕ → ListFault → Type 0
ReadFailure c n s (Line line why) = FirstFault c n s line why
ReadFailure c n s OutOfMemory = (first : List ℕ) × (rest : List (List ℕ)) × (lines_of s ≡ first ∷ rest) × (line_fault c n first ≡ None)

-- whether a name cannot end a line, because it is empty or has a newline
abbrev pub is_bad_name : List ℕ → Bool
is_bad_name name = length name == 0 || list_any (λ b. b == 10) name

-- the index of the first entry with a bad name, or `None` if there is none
abbrev pub first_bad_name : {N : ℕ} → List (Entry N) → Option ℕ
first_bad_name entries = position (λ e. is_bad_name e.name.now) entries

-- a source, with a newline added if its last line lacks it
abbrev pub with_last_newline : List ℕ → List ℕ
with_last_newline s = if length s == 0 || slice_index s (length s - 1) == 10 then s else s ++ (10 ∷ [])
