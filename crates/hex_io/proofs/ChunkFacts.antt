-- What a buffer's front holds of a chunk's digits, and that no chunk is left.
use Rattle.std.proofs.Common.{◌≡◌, ℕ, List, [], ◌∷◌, ◌++◌, length, drop, take, ap, sym, ◌∙◌, arith, append-nil}
use Rattle.std.specs.Prelude.{Option, Result, Ok}
use Rattle.std.proofs.Math.Seq.{take-append_seam}
use Rattle.hex_core.specs.Calls.{Fills}

-- where no byte is left, those before are all
pub front-all : (front rest all : List ℕ) → front ++ rest ≡ all → length rest ≡ 0 → front ≡ all
front-all front [] all parts none = sym (append-nil front) ∙ parts
front-all front (b ∷ rest) all parts none = absurd (omega arith)

-- what was written is the front of the buffer
pub filled-front : {E : Type 0} (refusal : Option E) (front old new : List ℕ) (r : Result ℕ E) (n : ℕ) → r ≡ Ok n
    → Fills refusal (λ bytes. bytes ≡ front) old new r → (n ≡ length front) × (take n new ≡ front)
filled-front {E} refusal front old new r n is h =
    let done : Fills refusal (λ bytes. bytes ≡ front) old new (Ok n) = rw is at h in
    let size : n ≡ length front = done.1.2 ∙ ap length done.1.1 in
    (size, rw (done.1.3, done.1.1, size) (take-append_seam front (drop (length front) old)))
