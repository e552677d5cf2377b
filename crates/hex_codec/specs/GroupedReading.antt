-- The list that a grouped text spells, and the errors of decoding it.
use Rattle.std.specs.Prelude.{◌≡◌, ℕ, ◌+◌, ◌-◌, ◌*◌, ◌%◌, ◌==◌, nat_lt, Bool, not, if◌then◌else◌, List, length, take}
use Rattle.std.specs.Prelude.{drop, position, slice_index, is_none, All, Option, Some, None, option_map}
use Rattle.std.specs.List.{flat_map, range_with_len}
use Rattle.hex_core.specs.declared.digit.CheckCase.{CheckCase}
use Rattle.hex_core.specs.Digit.{value}
use Rattle.hex_core.specs.Text.{Spells}
use Rattle.hex_codec.specs.declared.group.Group.{Group}
use Rattle.hex_codec.specs.declared.grouped.GroupFault.{GroupFault}
use Rattle.hex_codec.specs.declared.grouped.GroupFault.TheVariants.{BadLength, OutputTooSmall, InvalidByte}
use Rattle.hex_codec.specs.GroupedWriting.{piece_count, piece_len, pieces, separator}

-- the length of the grouped text of n bytes: two digits for each byte, and one separator fewer than pieces
abbrev pub grouped_len : ℕ → ℕ → ℕ
grouped_len every n = 2 * n + (piece_count every n - 1)

-- the number of bytes whose grouped text has `len` bytes, or `None` if there is no such number
abbrev pub byte_count : ℕ → ℕ → Option ℕ
byte_count every len = position (λ n. grouped_len every n == len) (range_with_len 0 (len + 1))

-- the parts of a text: each part is the digits of a piece and the separator after it, which the last part
-- lacks
abbrev pub parts : ℕ → List ℕ → List (List ℕ)
parts every s = pieces (2 * every + 1) s

-- the bytes of a text at the indices of digits
abbrev pub digits_in : ℕ → List ℕ → List ℕ
digits_in every s = flat_map (take (2 * every)) (parts every s)

-- the bytes of a text at the indices of separators
abbrev pub separators_in : ℕ → List ℕ → List ℕ
separators_in every s = flat_map (drop (2 * every)) (parts every s)

-- the text s spells the list `bytes`: it has the length of the list's grouped text, each separator is that of
-- the group, and its digits spell the list
pub record GroupSpells (c : CheckCase) (group : Group) (s bytes : List ℕ) : Type 0 where
  pub long : length s ≡ grouped_len (piece_len group) (length bytes)
  pub separated : All (λ b. b ≡ separator group) (separators_in (piece_len group) s)
  pub spelled : Spells c (digits_in (piece_len group) s) bytes

-- whether the byte at index i is wrong: it is not the separator where a separator should be, or it has no
-- value where a digit should be
abbrev pub is_invalid_in_text : CheckCase → Group → List ℕ → ℕ → Bool
is_invalid_in_text c group s i =
    if i % (2 * piece_len group + 1) == 2 * piece_len group then not (slice_index s i == separator group)
    else is_none (value c (slice_index s i))

-- the index of the first wrong byte of a text, or `None` if no byte is wrong
abbrev pub first_invalid_in_text : CheckCase → Group → List ℕ → Option ℕ
first_invalid_in_text c group s = position (is_invalid_in_text c group s) (range_with_len 0 (length s))

-- the error of decoding into `room` bytes, by the number of bytes and the error for the first wrong byte: a
-- length that no grouped text has, else too little room, else the first wrong byte
abbrev pub refusal_of_count : Option ℕ → Option GroupFault → ℕ → Option GroupFault
refusal_of_count None fault room = Some BadLength
refusal_of_count (Some n) fault room = if nat_lt room n then Some (OutputTooSmall n) else fault

-- the error of decoding the grouped text s into `room` bytes
abbrev pub group_refusal : CheckCase → Group → List ℕ → ℕ → Option GroupFault
group_refusal c group s room =
    refusal_of_count (byte_count (piece_len group) (length s)) (option_map (λ i. InvalidByte i (slice_index s i)) (first_invalid_in_text c group s)) room
