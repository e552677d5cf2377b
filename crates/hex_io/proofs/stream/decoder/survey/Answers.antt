use Rattle.std.proofs.Common.{rules, arith, ap, ◌∙◌, ◌++◌, true, length, length-append, append_assoc}
use Rattle.std.specs.Slice.Iter.{chunks_rest}
use Rattle.std.proofs.Math.Bool.{and-eq-true_iff}
use Rattle.std.proofs.lemmas.List.{length-take-le}
use Rattle.std.proofs.lemmas.List.Elements.{filter-append}
use Rattle.hex_core.proofs.PositionLemmas.{none_joined}
use Rattle.hex_io.specs.Reading.{is_invalid_read, spaced}
use Rattle.hex_codec.specs.Spaced.{is_solid, unspaced}
use Rattle.hex_io.proofs.DecoderLemmas.{digits-le, digits-valid}
use Rattle.hex_io.proofs.stream.decoder.survey.Goals as goal

pub overflow_add-count : goal.overflow_add-count
overflow_add-count c =
    let so_far = c.loop-block.invariant.3 in let case = c.args.case in
    let block = c.in-Some.block.now in let rest = chunks_rest c.next.new.self in
    let parts = ap length (rw c.in-Some.ensures.steps.1.0 at so_far.1) in let outer = length-append so_far.0 (block ++ rest) in let inner = length-append block rest in
    let more = ap length c.copy_unspaced-more.ensures.copied in let taken = length-take-le c.copy_unspaced-more.result c.copy_unspaced-more.new.block c.copy_unspaced-more.ensures.room in
    omega (arith, so_far.2, digits-le case true so_far.0, digits-le case true block, parts, outer, inner, more, taken)

pub loop-block-preserved : goal.loop-block-preserved
loop-block-preserved c =
    let steps = c.in-Some.ensures.steps in let so_far = c.loop-block.invariant.3 in let gone = so_far.0 in let case = c.args.case in
    let block = c.in-Some.block.now in let rest = chunks_rest c.next.new.self in
    let copied = c.copy_unspaced-more.ensures.copied in
    let valid = rw copied at c.check-is_clean.ensures.valid in let solid = digits-valid case true block in
    let both = none_joined (is_invalid_read (spaced case)) gone block in
    let both_are = and-eq-true_iff c.loop-block.is_clean c.check-is_clean.result in
    let more = ap length (filter-append is_solid gone block) ∙ length-append (unspaced gone) (unspaced block) in
    let taken = length-take-le c.copy_unspaced-more.result c.copy_unspaced-more.new.block c.copy_unspaced-more.ensures.room in (
      search rules,
      tt,
      steps.0 ∙ c.loop-block.invariant.2,
      (
        gone ++ block,
        append_assoc gone block rest ∙ rw steps.1.0 at so_far.1,
        omega (arith, so_far.2, ap length copied, taken, more),
        (
          λ yes. both.1 (so_far.3.0 (both_are.0 yes).0, solid.1 (valid.0 (both_are.0 yes).1)),
          λ none. both_are.1 (so_far.3.1 (both.0 none).0, valid.1 (solid.0 (both.0 none).1)),
        ),
      ),
    )
