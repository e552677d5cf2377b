-- What is pushed and what is left make up the whole text, and there is room for what is left.
use Rattle.std.proofs.Common.{◌≡◌, ◌+◌, ◌*◌, ◌≤◌, ◌++◌, length}
use Rattle.std.specs.Slice.Iter.{chunks_rest, chunks_size}
use Rattle.arrayvec.specs.ArrayString.{array_string_len}
use Rattle.hex_core.specs.Text.{text}
use Rattle.hex_codec.proofs.heapless_08.string_of.Given as goal

abbrev pub invariant-chunks : goal.invariant-chunks
invariant-chunks g l =
    (chunks_size l.chunk-iterator ≡ 256)
    × (l.string.bytes ++ text l.fn.upper (chunks_rest l.chunk-iterator) ≡ text l.fn.upper l.fn.src)
    × (array_string_len l.string + 2 * length (chunks_rest l.chunk-iterator) ≤ g.row.N)
