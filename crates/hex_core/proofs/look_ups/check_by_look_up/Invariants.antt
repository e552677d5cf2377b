use Rattle.std.proofs.Common.{◌≡◌, ℕ, ◌<◌, get_or, length, false}
use Rattle.std.specs.Prelude.{IsTrue}
use Rattle.hex_core.proofs.SearchLemmas.{lacks}
use Rattle.hex_core.proofs.look_ups.check_by_look_up.Given as goal

-- valid says that each byte so far has a value, and is not lost where all bytes have one
abbrev pub invariant-loop-byte : goal.invariant-loop-byte
invariant-loop-byte l = record {
  so_far : IsTrue l.valid → (k : ℕ) → k < l.byte-index → lacks l.fn.case (get_or l.src k 0) ≡ false;
  kept : ((k : ℕ) → k < length l.src → lacks l.fn.case (get_or l.src k 0) ≡ false) → IsTrue l.valid;
}
