-- Each turn packs one more pair of digits, which both have values.
use Rattle.std.proofs.Common.{arith, ◌+◌, ◌*◌, ◌<◌, ℕ, length}
use Rattle.hex_core.proofs.SearchLemmas.{has_value}
use Rattle.hex_core.proofs.SpellsLemmas.{Spells-pair}
use Rattle.hex_core.proofs.TableLemmas.{value-entry}
use Rattle.hex_core.proofs.look_ups.write_bytes.Goals as goal

pub packed-requires : goal.packed-requires
packed-requires c =
    let case = c.args.case in let s = c.args.src.now in let i = c.bytes.i in
    let entry = λ (k : ℕ) (lt : k < length s). (value-entry case _ _ c.values_of-values.ensures (c.type_inv.src k).fits (has_value case s k c.requires.valid lt)).1 in
    record { high = entry (2 * i) (omega arith); low = entry (2 * i + 1) (omega arith) }

pub bytes-preserved : goal.bytes-preserved
bytes-preserved c =
    let case = c.args.case in let s = c.args.src.now in let i = c.bytes.i in
    let entry = λ (k : ℕ) (lt : k < length s). value-entry case _ _ c.values_of-values.ensures (c.type_inv.src k).fits (has_value case s k c.requires.valid lt) in
    Spells-pair case _ s c.bytes.dst i c.packed.result (entry (2 * i) (omega arith), entry (2 * i + 1) (omega arith)) (omega arith) c.packed.ensures c.bytes.invariant
