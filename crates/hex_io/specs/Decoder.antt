-- What a decoder does with a source that comes in chunks.
use Rattle.std.specs.Prelude.{◌≡◌, ℕ, ◌+◌, ◌-◌, ◌*◌, ◌/◌, ◌%◌, ◌^◌, ◌==◌, nat_le, nat_lt, if◌then◌else◌, List, ◌++◌}
use Rattle.std.specs.Prelude.{length, take, drop, Option, Some, None, Result, MatchResult}
use Rattle.std.specs.Option.{option_to_list}
use Rattle.hex_core.specs.declared.error.Error.{Error}
use Rattle.hex_core.specs.declared.error.Error.TheVariants.{OddLength, Overflow, OutputTooSmall}
use Rattle.hex_core.specs.Calls.{Answers}
use Rattle.hex_core.specs.Text.{Spells, with_front}
use Rattle.hex_io.specs.Reading.{SpellsBut, digits_in, invalid_read_of}
use Rattle.hex_io.specs.declared.stream.decoder.Decoder.{Decoder}
use Rattle.hex_io.specs.declared.stream.decoder.Reading.{Reading}

-- the policy of a decoder, and whether it skips white space
abbrev pub reading_of : Decoder → Reading
reading_of decoder = decoder.reading

-- the number of bytes that a decoder was fed
abbrev pub position_of : Decoder → ℕ
position_of decoder = decoder.position

-- the digit that waits for the second digit of its pair, as a list of at most one byte
abbrev pub waiting_in : Decoder → List ℕ
waiting_in decoder = option_to_list decoder.waiting

-- the decoder was fed the source `fed`, and wrote what its digits spell, except for a digit that waits
abbrev pub HasFed : Decoder → List ℕ → List ℕ → Type 0
HasFed decoder fed written = let r = reading_of decoder in
    (position_of decoder ≡ length fed) × SpellsBut r.case (digits_in r fed) written (waiting_in decoder)

-- how many more pairs are whole if n digits follow `had` digits
abbrev pub pairs_more : ℕ → ℕ → ℕ
pairs_more had n = (had + n) / 2 - had / 2

-- the error of a feed: the number `all` of bytes fed exceeds `usize`, else the room is less than `more`
-- bytes, else `invalid`, the error of the first byte of all that was fed that should be a digit and is not
abbrev pub refusal_by : ℕ → ℕ → ℕ → Option Error → Option Error
refusal_by all more room invalid =
    if nat_le (2 ^ 64) all then Some Overflow
    else if nat_lt room more then Some (OutputTooSmall more)
    else invalid

-- the error of feeding `src` into `room` bytes, if `fed` was fed before
abbrev pub feed_refusal : Reading → List ℕ → List ℕ → ℕ → Option Error
feed_refusal r fed src room =
    refusal_by (length fed + length src) (pairs_more (length (digits_in r fed)) (length (digits_in r src))) room (invalid_read_of r (fed ++ src))

-- a feed. If it has no error, the result is the number of bytes written to the start of the destination, and
-- with these bytes the decoder wrote what all that it was fed spells. Otherwise it is the error of
-- `feed_refusal`
abbrev pub Feeds : Decoder → Decoder → List ℕ → List ℕ → List ℕ → Result ℕ Error → Type 0
Feeds decoder decoder' src old new result = (fed written : List ℕ) → HasFed decoder fed written
    → MatchResult result
    (λ n. (feed_refusal (reading_of decoder) fed src (length old) ≡ None)
    × ((bytes : List ℕ) × (n ≡ length bytes) × (new ≡ with_front old bytes) × HasFed decoder' (fed ++ src) (written ++ bytes)))
    (λ e. feed_refusal (reading_of decoder) fed src (length old) ≡ Some e)

-- the whole pairs of the digits of a source spell a list
abbrev pub PairsSpell : Reading → List ℕ → List ℕ → Type 0
PairsSpell r s bytes = Spells r.case (take (2 * (length (digits_in r s) / 2)) (digits_in r s)) bytes

-- a decoder wrote what the whole pairs of all that it was fed spell, and if the number of digits is odd, the
-- last one waits
abbrev pub WritesAsOneCall : Type 0
WritesAsOneCall = (decoder : Decoder) (fed written : List ℕ)
    → HasFed decoder fed written
    → let digits = digits_in (reading_of decoder) fed in
    PairsSpell (reading_of decoder) fed written × (waiting_in decoder ≡ drop (2 * (length digits / 2)) digits)

-- every decoder was fed some source, and wrote what its digits spell
abbrev pub DecodersWereFed : Type 0
DecodersWereFed = (decoder : Decoder) → (fed : List ℕ) × (written : List ℕ) × HasFed decoder fed written

-- the end of a decoding: all that was fed spells what was written, or the result is the error of an odd
-- length
abbrev pub Finished : {T : Type 0} → Decoder → Result T Error → Type 0
Finished decoder result = (fed written : List ℕ) → HasFed decoder fed written → let r = reading_of decoder in
    Answers (if length (digits_in r fed) % 2 == 1 then Some OddLength else None) (λ _. Spells r.case (digits_in r fed) written) result
