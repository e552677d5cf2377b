use Rattle.std.proofs.Common.{ℕ, ◌-◌, length, replicate, refl, ap, ap₂, ◌∙◌, arith}
use Rattle.std.proofs.lemmas.Bool.{iff_false}
use Rattle.std.proofs.lemmas.Simd.{length-put_chunk, length-replicate}
use lib.Lanes.{chunk, put_chunk}
use Rattle.hex_core.proofs.BlockLemmas.{decodes_whole, ends_nibbles, pair_decodes, pair_tested, small_parts}
use Rattle.hex_core.proofs.PairLemmas.{packed_halves}
use Rattle.hex_core.proofs.decode.decode_ends.Goals as goal

pub returns-then-not-is_small : goal.returns-then-not-is_small
returns-then-not-is_small g c =
    let n = g.row.N in let r = c.values_or_16-nibbles.result in
    let ends = ends_nibbles (replicate g.row.TWICE 0) r (length c.args.src.now - n) n refl (length-replicate {A = ℕ} g.row.TWICE 0 ∙ omega arith) c.values_or_16-nibbles.ensures (omega arith) (omega arith) in
    (iff_false (pair_tested c.is_small.ensures (small_parts n r (omega arith)) ends.0 ends.1 (omega arith) (omega arith)) c.if-not-is_small.true, refl)

pub returns : goal.returns
returns g c =
    let n = g.row.N in let w = g.row.HALF in let r = c.values_or_16-nibbles.result in let old = c.args.dst.now in let end = length old in
    let parts = small_parts n r (omega arith) in
    let halves = packed_halves n w r (omega arith) (omega arith) in
    let ends = ends_nibbles (replicate g.row.TWICE 0) r (length c.args.src.now - n) n refl (length-replicate {A = ℕ} g.row.TWICE 0 ∙ omega arith) c.values_or_16-nibbles.ensures (omega arith) (omega arith) in
    let stored = ap (λ p. put_chunk (end - w) (put_chunk 0 old (chunk 0 w p)) (chunk w w p)) c.pack.ensures ∙ ap₂ (λ f b. put_chunk (end - w) (put_chunk 0 old f) b) halves.0 halves.1 in
    let front = chunk 0 w c.pack.result in let back = chunk w w c.pack.result in
    let same = length-put_chunk (end - w) (put_chunk 0 old front) back ∙ length-put_chunk 0 old front in (
      (pair_tested c.is_small.ensures parts ends.0 ends.1 (omega arith) (omega arith)).0 c.if-not-is_small.false,
      decodes_whole {old = old} {n = end}
          (pair_decodes (end - w) w ends.0 ends.1 (parts.0 (c.is_small.ensures.0 c.if-not-is_small.false)) stored (omega arith) refl (omega arith) (omega arith) (omega arith) (omega arith) (omega arith))
          (omega (arith, same)) (omega (arith, same)),
    )
