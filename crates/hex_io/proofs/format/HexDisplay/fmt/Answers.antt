-- A chunk's digits are the next of those of all bytes.
use Rattle.std.proofs.Common.{◌++◌, ◌∙◌, rules, append_assoc}
use Rattle.std.proofs.Output.{has_written_append}
use Rattle.std.specs.Slice.Iter.{chunks_rest}
use Rattle.hex_core.specs.Text.{lowercase}
use Rattle.hex_core.proofs.TextLemmas.{text-append}
use Rattle.hex_io.proofs.format.HexDisplay.fmt.Goals as goal

pub loop-chunk-preserved : goal.loop-chunk-preserved
loop-chunk-preserved g c =
    let steps = c.in-Some.ensures.steps in let chunk = c.in-Some.chunk.now in (
      search rules,
      tt,
      steps.0 ∙ c.loop-chunk.invariant.2,
      λ plain.
          let so_far = c.loop-chunk.invariant.3 plain in (
            so_far.0 ++ chunk,
            rw (text-append lowercase so_far.0 chunk, ← c.encoded-digits.ensures.text) (has_written_append _ _ _ _ _ _ so_far.1 (search rules)),
            append_assoc so_far.0 chunk (chunks_rest c.next.new.self) ∙ rw steps.1.0 at so_far.2,
          ),
    )
