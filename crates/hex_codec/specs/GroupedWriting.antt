-- The grouped text of a list: the texts of its pieces, with a separator between two pieces.
use Rattle.std.specs.Prelude.{◌≡◌, ℕ, ◌*◌, Bool, List, [], ◌∷◌, length, take, drop, map, Option, MatchOption}
use Rattle.std.specs.Int.{div_ceil}
use Rattle.std.specs.List.{join_by, range_with_len}
use Rattle.hex_core.specs.Text.{text}
use Rattle.hex_codec.specs.declared.group.Group.{Group}
use Rattle.hex_codec.specs.GroupRule.{IsGroup}

-- the number of bytes in a piece
abbrev pub piece_len : Group → ℕ
piece_len group = group.every

-- the byte between two pieces
abbrev pub separator : Group → ℕ
separator group = group.sep

-- making a group: the result has this length of a piece and this separator, or it is `None` if no group may
-- have them
abbrev pub MakesGroup : ℕ → ℕ → Option Group → Type 0
MakesGroup every sep result = MatchOption result (IsGroup every sep → ⊥)
    (λ group. IsGroup every sep × (piece_len group ≡ every) × (separator group ≡ sep))

-- the number of pieces of n bytes: n divided by the length of a piece, rounded up
abbrev pub piece_count : ℕ → ℕ → ℕ
piece_count every n = div_ceil n every

-- the pieces of a list: each has `every` bytes, except the last, which may be shorter
abbrev pub pieces : ℕ → List ℕ → List (List ℕ)
pieces every bytes = map (λ i. take every (drop (i * every) bytes)) (range_with_len 0 (piece_count every (length bytes)))

-- the grouped text of a list: the texts of its pieces, joined by the separator
abbrev pub grouped : Group → Bool → List ℕ → List ℕ
grouped group upper bytes = join_by (text upper) (separator group ∷ []) (pieces (piece_len group) bytes)
