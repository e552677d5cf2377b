-- What is appended and what is left make up the whole text, and there is room for what is left.
use Rattle.std.proofs.Common.{◌≡◌, ◌+◌, ◌*◌, ◌≤◌, ◌++◌, length, string_bytes, string_len, string_capacity}
use Rattle.std.specs.Slice.Iter.{chunks_rest, chunks_size}
use Rattle.hex_core.specs.Text.{text}
use Rattle.hex_codec.proofs.strings.append_reserved.Given as goal

abbrev pub invariant-chunks : goal.invariant-chunks
invariant-chunks g l =
    (chunks_size l.chunk-iterator ≡ 256)
    × (string_bytes l.dst ++ text l.fn.upper (chunks_rest l.chunk-iterator) ≡ string_bytes l.initial.dst ++ text l.fn.upper l.fn.src)
    × (string_capacity l.initial.dst ≤ string_capacity l.dst)
    × (string_len l.dst + 2 * length (chunks_rest l.chunk-iterator) ≡ string_len l.initial.dst + 2 * length l.fn.src)
