-- The index from which a search looks at single bytes.
use Rattle.std.specs.Prelude.{ℕ, ◌*◌, ◌/◌, length, min, Option, Some, None}
use Rattle.hex_core.specs.Probe.{ProbeState, invalid_in}
use Rattle.hex_core.specs.Search.{tested_blocks}

-- that index in a source of `len` bytes. If f is the first invalid byte, it is the start of its block, or the
-- end of the tested blocks if f lies after them
abbrev pub looks_behind : ℕ → Option ℕ → ℕ
looks_behind len (Some f) = 64 * min (tested_blocks len) (f / 64)
looks_behind len None = 64 * tested_blocks len

-- that index in the source of a probe
abbrev pub looks_from : ProbeState → ℕ
looks_from p = looks_behind (length p.source) (invalid_in p)
