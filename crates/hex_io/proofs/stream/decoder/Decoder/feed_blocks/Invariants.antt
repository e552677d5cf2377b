-- The blocks that are gone were fed, and what they spell is written.
use Rattle.std.proofs.Common.{◌≡◌, ◌≤◌, ℕ, List, ◌++◌, length}
use Rattle.std.specs.Slice.Iter.{chunks_rest, chunks_size}
use Rattle.hex_core.specs.Text.{with_front}
use Rattle.hex_io.specs.Decoder.{HasFed, reading_of}
use Rattle.hex_io.proofs.stream.decoder.Decoder.feed_blocks.Given as goal

abbrev pub invariant-loop-block : goal.invariant-loop-block
invariant-loop-block l = let rest = chunks_rest l.block-iterator in let first = l.initial.self in
    goal.iterator-loop-block.can_next l.block-iterator × goal.iterator-loop-block.is_finite l.block-iterator × (chunks_size l.block-iterator ≡ 2048)
    × (reading_of l.self ≡ reading_of first) × (l.done ≤ length l.dst)
    × ((gone : List ℕ) × (gone ++ rest ≡ l.src)
    × ((fed written : List ℕ) → HasFed first fed written
    → (bytes : List ℕ) × HasFed l.self (fed ++ gone) (written ++ bytes) × (l.dst ≡ with_front l.initial.dst bytes) × (l.done ≡ length bytes)))
