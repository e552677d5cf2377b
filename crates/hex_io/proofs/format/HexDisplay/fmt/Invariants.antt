-- The digits of the bytes before the chunks that are left have been written.
use Rattle.std.proofs.Common.{◌≡◌, ℕ, List, ◌++◌}
use Rattle.std.specs.Fmt.{HasWritten, IsPlainFormatter}
use Rattle.std.specs.Slice.Iter.{chunks_rest, chunks_size}
use Rattle.hex_core.specs.Text.{lowercase, text}
use Rattle.hex_io.specs.Frame.{hex_bytes}
use Rattle.hex_io.proofs.format.HexDisplay.fmt.Given as goal

abbrev pub invariant-loop-chunk : goal.invariant-loop-chunk
invariant-loop-chunk g l =
    (goal.iterator-loop-chunk g).can_next l.chunk-iterator
    × (goal.iterator-loop-chunk g).is_finite l.chunk-iterator
    × (chunks_size l.chunk-iterator ≡ 512)
    × (IsPlainFormatter l.initial.f → (done : List ℕ) × HasWritten g.W.Write.write_str_gives l.initial.f (text lowercase done) l.f
    × (done ++ chunks_rest l.chunk-iterator ≡ hex_bytes l.fn.self))
