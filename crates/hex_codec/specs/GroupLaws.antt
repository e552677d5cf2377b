-- Facts on grouped texts that follow from the definitions alone.
use Rattle.std.specs.Prelude.{◌≡◌, ◌≤◌, ◌↔◌, ◌⊎◌, ℕ, Bool, List, length, All, IsSome, None}
use Rattle.hex_core.specs.declared.digit.CheckCase.{CheckCase}
use Rattle.hex_core.specs.declared.digit.CheckCase.TheVariants as policy
use Rattle.hex_core.specs.Digit.{strict, value}
use Rattle.hex_core.specs.Laws.{AreBytes}
use Rattle.hex_core.specs.Text.{text}
use Rattle.hex_codec.specs.declared.group.Group.{Group}
use Rattle.hex_codec.specs.GroupedWriting.{grouped, piece_len, separator}
use Rattle.hex_codec.specs.GroupedReading.{GroupSpells, group_refusal, grouped_len}

-- the grouped text of a list spells that list, under the policy of the text's own case and under the policy
-- of both cases
abbrev pub ReadingInvertsGrouping : Type 0
ReadingInvertsGrouping = (group : Group) (upper : Bool) (bytes : List ℕ)
    → AreBytes bytes
    → GroupSpells (strict upper) group (grouped group upper bytes) bytes × GroupSpells policy.None group (grouped group upper bytes) bytes

-- the grouped text of the list that a text spells under a policy of one case is that text
abbrev pub GroupingInvertsStrictReading : Type 0
GroupingInvertsStrictReading = (group : Group) (upper : Bool) (s bytes : List ℕ)
    → GroupSpells (strict upper) group s bytes
    → grouped group upper bytes ≡ s

-- a text is accepted exactly if, as a grouped text, it spells a list that fits the room
abbrev pub ReadsWhatGroupSpells : Type 0
ReadsWhatGroupSpells = (c : CheckCase) (group : Group) (s : List ℕ) (room : ℕ)
    → (group_refusal c group s room ≡ None) ↔ ((bytes : List ℕ) × GroupSpells c group s bytes × (length bytes ≤ room))

-- a grouped text spells at most one list
abbrev pub GroupSpellsOneList : Type 0
GroupSpellsOneList = (c : CheckCase) (group : Group) (s bytes others : List ℕ)
    → GroupSpells c group s bytes
    → GroupSpells c group s others
    → bytes ≡ others

-- the length of the grouped text of a list follows from the length of the list
abbrev pub GroupedTextsAreLong : Type 0
GroupedTextsAreLong = (group : Group) (upper : Bool) (bytes : List ℕ)
    → length (grouped group upper bytes) ≡ grouped_len (piece_len group) (length bytes)

-- each byte of a grouped text is a digit of its case or the separator
abbrev pub GroupedTextsAreDigitsAndSeparators : Type 0
GroupedTextsAreDigitsAndSeparators = (group : Group) (upper : Bool) (bytes : List ℕ)
    → AreBytes bytes
    → All (λ b. IsSome (value (strict upper) b) ⊎ (b ≡ separator group)) (grouped group upper bytes)

-- each byte of a text without groups is a digit of its case
abbrev pub TextsAreDigits : Type 0
TextsAreDigits = (upper : Bool) (bytes : List ℕ)
    → AreBytes bytes
    → All (λ b. IsSome (value (strict upper) b)) (text upper bytes)
