use Rattle.std.proofs.Common.{arith}
use Rattle.std.proofs.lemmas.Simd.{length-chunk}
use std.Logic.{↔_trans}
use Rattle.hex_core.proofs.BlockLemmas.{valid_chunk, valid_whole}
use Rattle.hex_core.proofs.ByteLemmas.{mask_of_one}
use Rattle.hex_core.proofs.check.check_one.Goals as goal

pub returns : goal.returns
returns c =
    let case = c.args.case in let s = c.args.src.now in
    let whole = ↔_trans (valid_chunk case s 0 1 1 (omega arith) (omega arith)) (valid_whole case s 1 (omega arith)) in
    ↔_trans (mask_of_one case _ (length-chunk 0 1 s (omega arith)) c.admitted.ensures.mask) whole
