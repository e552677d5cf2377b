-- What it was fed before and what it is fed now are decoded as one call.
use Rattle.std.proofs.Common.{◌≡◌, ◌++◌, List, ℕ, Result, Ok, Err, subst}
use Rattle.std.specs.Prelude.{OnErr}
use Rattle.hex_core.specs.declared.error.Error.{Error}
use Rattle.hex_io.specs.declared.stream.decoder.Decoder.{Decoder}
use Rattle.hex_io.specs.Decoder.{Feeds, HasFed, PairsSpell, WritesAsOneCall, reading_of}
use Rattle.callers.specs.Chunks.{DecodesMore}
use Rattle.callers.proofs.chunks.decode_more.Goals as goal

fed-more : WritesAsOneCall → (start end : Decoder) (fed written digits old new : List ℕ) (result : Result ℕ Error) → HasFed start fed written
    → Feeds start end digits old new result → reading_of end ≡ reading_of start → OnErr result ((end ≡ start) × (new ≡ old)) → DecodesMore start end digits old new result
fed-more law start end fed written digits old new (Ok n) has feeds same kept =
    let more = (feeds fed written has).1 in
    let spelled = (law end (fed ++ digits) (written ++ more.0) more.3).0 in
    (fed, written, has.0, (law start fed written has).0, (more.0, more.1, more.2, more.3.0, subst (λ r. PairsSpell r (fed ++ digits) (written ++ more.0)) same spelled))
fed-more law start end fed written digits old new (Err e) has feeds same kept =
    (fed, written, has.0, (law start fed written has).0, (feeds fed written has, kept.1, kept.0))

pub returns : goal.returns
returns c =
    let was = c.every_decoder_has_been_fed.ensures.fed c.args.decoder.now in
    fed-more c.any_cutting_is_decoded_as_one_call.ensures.same c.args.decoder.now c.feed.new.self was.0 was.1 c.args.more.now c.args.buffer.now
    c.feed.new.dst c.feed.result was.2 c.feed.ensures.feeds c.feed.ensures.reading c.feed.ensures.unchanged
