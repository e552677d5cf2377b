-- One more entry is looked up, and all were at the end.
use Rattle.std.proofs.Common.{arith}
use borrow.Author.Count.{below_more}
use Rattle.hex_core.proofs.PositionLemmas.{position_none}
use Rattle.hex_core.proofs.SearchLemmas.{has_value, lacks}
use Rattle.hex_core.proofs.TableLemmas.{admitted-entry, valid-kept, valid-more, value-entry}
use Rattle.hex_core.proofs.look_ups.check_by_look_up.Goals as goal

pub loop-byte-preserved : goal.loop-byte-preserved
loop-byte-preserved c =
    let case = c.args.case in let at = c.loop-byte.byte-index in let table = c.values_of-values.ensures in
    record {
      so_far = λ both. let parts = valid-more c.loop-byte.valid _ both in
          below_more _ _ (c.loop-byte.invariant.so_far parts.0) (admitted-entry case _ _ table (c.type_inv.src at).fits parts.1);
      kept = λ all. valid-kept c.loop-byte.valid _ (c.loop-byte.invariant.kept all) (value-entry case _ _ table (c.type_inv.src at).fits (all at c.loop-byte-test.true)).1;
    }

pub returns : goal.returns
returns c = (
  λ valid. position_none (lacks c.args.case) c.args.src.now (λ k h. c.loop-byte.invariant.so_far valid k (omega arith)),
  λ none. c.loop-byte.invariant.kept (λ k h. has_value c.args.case c.args.src.now k none h),
)
