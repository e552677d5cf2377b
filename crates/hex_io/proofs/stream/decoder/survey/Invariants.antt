-- Of the blocks that are gone the digits are counted and tested.
use Rattle.std.proofs.Common.{◌≡◌, List, ℕ, ◌++◌, None, length}
use Rattle.std.specs.Prelude.{◌↔◌, IsTrue}
use Rattle.std.specs.Slice.Iter.{chunks_rest, chunks_size}
use Rattle.hex_io.specs.Reading.{first_invalid_read, spaced}
use Rattle.hex_codec.specs.Spaced.{unspaced}
use Rattle.hex_io.proofs.stream.decoder.survey.Given as goal

abbrev pub invariant-loop-block : goal.invariant-loop-block
invariant-loop-block l = let rest = chunks_rest l.block-iterator in
    goal.iterator-loop-block.can_next l.block-iterator × goal.iterator-loop-block.is_finite l.block-iterator × (chunks_size l.block-iterator ≡ 2048)
    × ((gone : List ℕ) × (gone ++ rest ≡ l.src) × (l.count ≡ length (unspaced gone)) × (IsTrue l.is_clean ↔ (first_invalid_read (spaced l.fn.case) gone ≡ None)))
