-- What the functions that decode and encode grouped texts return, and what they write.
use Rattle.std.specs.Prelude.{◌≡◌, ◌≤◌, ℕ, Bool, List, length, Result, Ok}
use Rattle.std.specs.Borrow.{MutBor}
use Rattle.hex_core.specs.declared.digit.CheckCase.{CheckCase}
use Rattle.hex_core.specs.declared.error.Error.{Error}
use Rattle.hex_core.specs.Calls.{Answers, Fills}
use Rattle.hex_core.specs.Refusal.{room_refusal}
use Rattle.hex_core.specs.Text.{with_front}
use Rattle.hex_codec.specs.declared.group.Group.{Group}
use Rattle.hex_codec.specs.declared.grouped.GroupFault.{GroupFault}
use Rattle.hex_codec.specs.GroupedWriting.{grouped, piece_len}
use Rattle.hex_codec.specs.GroupedReading.{GroupSpells, group_refusal, grouped_len}

-- decoding to the start of a destination: the errors are those of `group_refusal`, and the bytes written are
-- those that the grouped text spells
abbrev pub Reads : CheckCase → Group → List ℕ → List ℕ → List ℕ → Result ℕ GroupFault → Type 0
Reads c group s old new result = Fills (group_refusal c group s (length old)) (GroupSpells c group s) old new result

-- if the text spells a list that fits a destination, decoding writes that list to the start of the
-- destination and returns its length
abbrev pub FrontIsRead : CheckCase → Group → List ℕ → List ℕ → List ℕ → Result ℕ GroupFault → Type 0
FrontIsRead c group s old new result = (bytes : List ℕ) → GroupSpells c group s bytes → length bytes ≤ length old
    → (result ≡ Ok (length bytes)) × (new ≡ with_front old bytes)

-- decoding that returns the written part of a destination of `room` bytes: the errors are those of
-- `group_refusal`, and that part is what the grouped text spells
abbrev pub ReadsFront : CheckCase → Group → List ℕ → ℕ → Result (MutBor (List ℕ)) GroupFault → Type 0
ReadsFront c group s room = Answers (group_refusal c group s room) (λ front. GroupSpells c group s front.now)

-- encoding to the start of a destination: the errors are those of `room_refusal` for the length of the
-- grouped text, and the bytes written are that text
abbrev pub WritesGrouped : Group → Bool → List ℕ → List ℕ → List ℕ → Result ℕ Error → Type 0
WritesGrouped group upper bytes old new result =
    Fills (room_refusal (grouped_len (piece_len group) (length bytes)) (length old)) (λ digits. digits ≡ grouped group upper bytes) old new result
