use Rattle.std.proofs.Common.{rules, arith, ap, ◌∙◌, ◌++◌, ◌+◌, ◌-◌, ◌≤◌, [], length, length-append, length-drop, append_assoc, append-nil}
use Rattle.std.specs.Slice.Iter.{chunks_rest}
use Rattle.std.proofs.lemmas.List.{take_rest}
use Rattle.hex_io.proofs.ChunkFacts.{front-all}
use Rattle.hex_io.proofs.DecoderLemmas.{block-unrefused, feed-unrefused, put-more, unrefused}
use Rattle.hex_io.proofs.stream.decoder.Decoder.feed_blocks.Goals as goal

pub loop-block-init : goal.loop-block-init
loop-block-init c =
    (search rules, tt, search rules, search rules, search rules, ([], search rules, λ fed written has. ([], rw (append-nil fed, append-nil written) has, search rules, search rules)))

pub unwrap-done-requires : goal.unwrap-done-requires
unwrap-done-requires c =
    let so_far = c.loop-block.invariant.5 in let r = c.args.self.now.reading in let dst = c.loop-block.dst in let done = c.loop-block.done in
    let start = c.every_decoder_has_been_fed.ensures.fed c.args.self.now in
    let before = so_far.2 start.0 start.1 start.2 in
    let parts = rw c.in-Some.ensures.steps.1.0 at so_far.1 in
    let room = ap (λ n. n - done) c.loop-block.auto.dst in
    unrefused _ _ c.feed_spaced.result (c.feed_spaced.ensures.feeds (start.0 ++ so_far.0) (start.1 ++ before.0) before.1)
    (rw (take_rest dst done, length-drop done dst, room, before.3, c.loop-block.invariant.3) (
    block-unrefused r.case r.skips start.0 so_far.0 c.in-Some.block.now (chunks_rest c.next.new.self) c.args.src.now start.1 before.0 c.args.self.now.waiting c.loop-block.self.waiting (length c.args.dst.now)
    parts start.2.1 (rw c.loop-block.invariant.3 at before.1.1) (omega (arith, start.2.0, c.requires.counted)) (search rules) c.requires.valid))

pub loop-block-preserved : goal.loop-block-preserved
loop-block-preserved c =
    let steps = c.in-Some.ensures.steps in let so_far = c.loop-block.invariant.5 in
    let block = c.in-Some.block.now in let rest = chunks_rest c.next.new.self in
    let parts = rw steps.1.0 at so_far.1 in
    let most : c.loop-block.done + c.unwrap-done.result ≤ length c.loop-block.dst = search rules in (
      search rules,
      tt,
      steps.0 ∙ c.loop-block.invariant.2,
      c.feed_spaced.ensures.reading ∙ c.loop-block.invariant.3,
      search rules,
      (
        so_far.0 ++ block,
        append_assoc so_far.0 block rest ∙ parts,
        λ fed written has.
            let before = so_far.2 fed written has in
            let more = (rw c.unwrap-done.ensures at (c.feed_spaced.ensures.feeds (fed ++ so_far.0) (written ++ before.0) before.1)).1 in (
              before.0 ++ more.0,
              rw (← append_assoc fed so_far.0 block, ← append_assoc written before.0 more.0) more.3,
              put-more c.args.dst.now c.loop-block.dst c.feed_spaced.new.dst before.0 more.0 c.loop-block.done before.2 before.3 more.2 (omega (arith, before.3, more.1, most, c.loop-block.auto.dst)),
              omega (arith, before.3, more.1, length-append before.0 more.0),
            ),
      ),
    )

pub returns-clause-feeds : goal.returns-clause-feeds
returns-clause-feeds c = λ fed written has.
    let so_far = c.loop-block.invariant.5 in let r = c.args.self.now.reading in
    let all = front-all so_far.0 (chunks_rest c.loop-block.block-iterator) c.args.src.now so_far.1 c.in-None.ensures.steps.1.0 in
    let before = rw all at (so_far.2 fed written has) in (
      feed-unrefused r.case r.skips fed c.args.src.now written c.args.self.now.waiting (length c.args.dst.now) has.1 (omega (arith, has.0, c.requires.counted)) (search rules) c.requires.valid,
      (before.0, before.3, before.2, before.1),
    )
