use Rattle.std.proofs.Common.{ℕ, ◌+◌, ◌-◌, length, replicate, refl, ap, ap₂, ◌∙◌, arith}
use Rattle.std.proofs.lemmas.Simd.{length-put_chunk, length-replicate}
use lib.Lanes.{chunk, put_chunk}
use Rattle.hex_core.proofs.BlockLemmas.{decodes_whole, ends_nibbles, ends_valid, pair_decodes, small_parts, valid_values}
use Rattle.hex_core.proofs.PairLemmas.{packed_halves}
use Rattle.hex_core.proofs.decode.write_ends.Goals as goal

pub pack-requires : goal.pack-requires
pack-requires g c =
    let n = g.row.N in let at = length c.args.src.now - n in let size = length-replicate {A = ℕ} g.row.TWICE 0 in
    let valid = ends_valid c.args.case c.args.src.now (replicate g.row.TWICE 0) _ at n refl (size ∙ omega arith) (omega arith) c.requires.valid in
    (omega arith, (omega arith, (valid_values c.args.case _ c.nibbles.result (n + n) (omega (arith, valid.1)) valid.0 c.nibbles.ensures (omega (arith, valid.1))).1))

pub returns : goal.returns
returns g c =
    let n = g.row.N in let w = g.row.HALF in let r = c.nibbles.result in let old = c.args.dst.now in let end = length old in
    let at = length c.args.src.now - n in let size = length-replicate {A = ℕ} g.row.TWICE 0 in
    let valid = ends_valid c.args.case c.args.src.now (replicate g.row.TWICE 0) _ at n refl (size ∙ omega arith) (omega arith) c.requires.valid in
    let both = valid_values c.args.case _ r (n + n) (omega (arith, valid.1)) valid.0 c.nibbles.ensures (omega (arith, valid.1)) in
    let parts = small_parts n r (omega (arith, valid.1)) in
    let halves = packed_halves n w r (omega (arith, valid.1)) (omega arith) in
    let ends = ends_nibbles (replicate g.row.TWICE 0) r at n refl (size ∙ omega arith) both.0 (omega (arith, valid.1)) (omega arith) in
    let stored = ap (λ p. put_chunk (end - w) (put_chunk 0 old (chunk 0 w p)) (chunk w w p)) c.pack.ensures ∙ ap₂ (λ f b. put_chunk (end - w) (put_chunk 0 old f) b) halves.0 halves.1 in
    let front = chunk 0 w c.pack.result in let back = chunk w w c.pack.result in
    let same = length-put_chunk (end - w) (put_chunk 0 old front) back ∙ length-put_chunk 0 old front in
    decodes_whole {old = old} {n = end}
    (pair_decodes (end - w) w ends.0 ends.1 (parts.0 both.1) stored (omega arith) refl (omega arith) (omega arith) (omega arith) (omega arith) (omega arith))
    (omega (arith, same)) (omega (arith, same))
