-- Each turn keeps the byte of one more pair.
use Rattle.std.proofs.Common.{◌≡◌, ℕ, ◌<◌, ◌+◌, ◌*◌, ◌/◌, length, get_or, arith}
use Rattle.hex_core.proofs.SearchLemmas.{has_value}
use Rattle.hex_core.proofs.TableLemmas.{pair_entries, value-entry}
use Rattle.hex_core.proofs.SpellsLemmas.{length-bytes, step, word_more}
use Rattle.hex_core.proofs.look_ups.word_of.Goals as goal
use Rattle.hex_core.proofs.look_ups.word_of.Goals.{then-high-via-then-high, then-high-via-else-high+then-low}

pub returns-then-high : goal.returns-then-high
returns-then-high c none =
    let s = c.args.src.now in
    let entry : (k : ℕ) → k < length s → get_or c.values_of-values.result.now (get_or s k 0) 0 < 16 =
    λ k inside. (value-entry c.args.case _ (get_or s k 0) c.values_of-values.ensures (c.type_inv.src k).fits (has_value c.args.case s k none inside)).1 in
    elim c.then-high.branch [
      | then-high-via-then-high w ↦ absurd (omega (arith, w.if-high.true, entry (2 * c.pairs.i) (omega arith)))
      | then-high-via-else-high+then-low w ↦ absurd (omega (arith, w.if-low.true, entry (2 * c.pairs.i + 1) (omega arith)))
    ]

pub packed-requires : goal.packed-requires
packed-requires c =
    let both = pair_entries c.args.case _ c.args.src.now c.pairs.i c.values_of-values.ensures (λ k. (c.type_inv.src k).fits) c.if-high.false c.if-low.false in
    record { high = both.0.1; low = both.1.1 }

pub pairs-preserved : goal.pairs-preserved
pairs-preserved c =
    let both = pair_entries c.args.case _ c.args.src.now c.pairs.i c.values_of-values.ensures (λ k. (c.type_inv.src k).fits) c.if-high.false c.if-low.false in
    record {
      small = ((step c.pairs.i c.pairs.word c.packed.result 0 (omega arith) (omega arith)).small c.pairs.invariant.small).0;
      spelled = word_more c.args.case _ c.args.src.now c.pairs.i c.pairs.word c.packed.result both (omega arith) c.packed.ensures c.pairs.invariant.spelled;
    }

pub overflow_mul-word : goal.overflow_mul-word
overflow_mul-word c = record { fits = omega (arith, ((step c.pairs.i c.pairs.word 0 0 (omega arith) (omega arith)).small c.pairs.invariant.small).1) }

pub overflow_add-word : goal.overflow_add-word
overflow_add-word c = record { fits = ((step c.pairs.i c.pairs.word c.packed.result 0 (omega arith) (omega arith)).small c.pairs.invariant.small).1 }

pub returns : goal.returns
returns c =
    let s = c.args.src.now in
    let all : c.pairs.i ≡ length s / 2 = omega arith in
    let long = length-bytes (length s / 2) c.pairs.word in
    record { twice = omega (arith, long); each = λ k h. (rw all at c.pairs.invariant.spelled) k (omega (arith, long, h)) }
