use Rattle.std.proofs.Common.{◌≡◌, ℕ, ◌-◌, ◌/◌, ◌^◌, ◌<◌, get_or, length}
use Rattle.std.specs.Int.{byte_at}
use Rattle.hex_core.proofs.look_ups.write_word.Given as goal

-- the last bytes are written, and the others are left
abbrev pub invariant-bytes : goal.invariant-bytes
invariant-bytes l = record {
  rest : l.left ≡ l.word / 256 ^ l.i;
  written : (k : ℕ) → k < l.i → get_or l.dst (length l.dst - 1 - k) 0 ≡ byte_at k l.word;
}
