-- What private functions do with one chunk of a stream. No public contract depends on these definitions.
use Rattle.std.specs.Prelude.{◌≡◌, ◌≢◌, ◌<◌, ◌≤◌, ℕ, ◌+◌, ◌*◌, ◌%◌, List, ◌++◌, length, take, slice_index, Option, Some}
use Rattle.std.specs.Prelude.{None, option_map, MatchOption}
use Rattle.std.specs.Option.{option_to_list}
use Rattle.hex_core.specs.declared.digit.CheckCase.{CheckCase}
use Rattle.hex_core.specs.declared.error.Error.{Error}
use Rattle.hex_core.specs.declared.error.Error.TheVariants.{InvalidChar}
use Rattle.hex_core.specs.Search.{first_invalid}
use Rattle.hex_core.specs.Text.{with_front}
use Rattle.hex_codec.specs.declared.group.Group.{Group}
use Rattle.hex_codec.specs.GroupedWriting.{piece_len}
use Rattle.hex_io.specs.Reading.{SpellsBut, first_invalid_read}
use Rattle.hex_codec.specs.Spaced.{unspaced}
use Rattle.hex_io.specs.declared.stream.decoder.Reading.{Reading}

-- the error of the first byte of a chunk that should be a digit and is not, if `had` bytes come before the
-- chunk
abbrev pub invalid_read_behind : Reading → ℕ → List ℕ → Option Error
invalid_read_behind r had src = option_map (λ i. InvalidChar (had + i) (slice_index src i)) (first_invalid_read r src)

-- a digit that waits and more digits were decoded: what they spell was written to the start of a destination,
-- and if their number is odd, the last one waits. If one of the digits has no value, nothing was written
abbrev pub DecodesPairs : CheckCase → Option ℕ → List ℕ → List ℕ → List ℕ → Option (Option ℕ) → Type 0
DecodesPairs c waiting digits old new result =
    MatchOption result ((first_invalid c digits ≢ None) × (new ≡ old))
    (λ next. (bytes : List ℕ) × SpellsBut c (option_to_list waiting ++ digits) bytes (option_to_list next) × (new ≡ with_front old bytes))

-- if `total` bytes end inside a piece, n more bytes do not pass the end of that piece. Without a group this always
-- holds
abbrev pub FitsPiece : Option Group → ℕ → ℕ → Type 0
FitsPiece None total n = 0 ≤ n
FitsPiece (Some group) total n = 0 < total % piece_len group → total % piece_len group + n ≤ piece_len group

-- `room` bytes have room for what n bytes add to a text: two digits for each byte, and if there is a group, at
-- most one separator for each
abbrev pub HasRoomFor : Option Group → ℕ → ℕ → Type 0
HasRoomFor None n room = 2 * n ≤ room
HasRoomFor (Some group) n room = 3 * n ≤ room

-- `more` is what the text of any `total` bytes lacks to be the text of these and of `bytes`
abbrev pub Continues : (List ℕ → List ℕ) → ℕ → List ℕ → List ℕ → Type 0
Continues shown total bytes more = (done : List ℕ) → length done ≡ total → shown done ++ more ≡ shown (done ++ bytes)

-- the first `at` bytes of a source were copied to the start of a block, where they are `count` bytes without
-- white space
abbrev pub HasCopied : List ℕ → ℕ → List ℕ → ℕ → Type 0
HasCopied s at block count = (count ≤ at) × (take count block ≡ unspaced (take at s))
