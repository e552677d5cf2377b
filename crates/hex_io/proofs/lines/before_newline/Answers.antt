-- The lowest bit that is set is the first newline's.
use Rattle.std.proofs.Common.{◌∙◌, ap, eqb, sym, w8, arith}
use Rattle.std.proofs.lemmas.Simd.{bitmask_splat, leading_from_mask_l, length-chunk, trailing_mask_l}
use Rattle.hex_io.proofs.LineLemmas.{newline}
use lib.Count.{count_trailing_zeros}
use lib.Lanes.{chunk}
use Rattle.hex_io.proofs.lines.before_newline.Goals as goal

pub returns-then-newlines-eq0 : goal.returns-then-newlines-eq0
returns-then-newlines-eq0 c =
    let long = length-chunk c.args.at 32 c.args.src.now c.requires in
    let mask = bitmask_splat w8 eqb (chunk c.args.at 32 c.args.src.now) 32 10 long (omega arith) in
    sym long ∙ sym (leading_from_mask_l newline (chunk c.args.at 32 c.args.src.now) (sym mask ∙ c.if-newlines-eq0.true))

pub returns-else-newlines-eq0 : goal.returns-else-newlines-eq0
returns-else-newlines-eq0 c =
    let long = length-chunk c.args.at 32 c.args.src.now c.requires in
    let mask = bitmask_splat w8 eqb (chunk c.args.at 32 c.args.src.now) 32 10 long (omega arith) in
    ap (count_trailing_zeros 64) mask ∙ trailing_mask_l newline 64 (chunk c.args.at 32 c.args.src.now) (omega (arith, long)) (omega (arith, c.if-newlines-eq0.false, mask))
