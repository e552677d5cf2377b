-- What was read so far, and one read more.
use Rattle.std.proofs.Common.{rules, arith, ◌∙◌, ◌++◌, ◌+◌, ◌^◌, ◌<◌, ◌≤◌, [], length, length-append, take, refl, append-nil, Err}
use Rattle.std.proofs.KnownBytes.{Consumes-trans}
use Rattle.std.proofs.Math.Seq.{take-append_seam}
use Rattle.std.proofs.lemmas.List.{length-take-le}
use Rattle.std.proofs.lemmas.Result.{err_from_is_err_and}
use Rattle.std.proofs.lemmas.Bool.Decides.{nat_tests}
use Rattle.hex_io.specs.Decoder.{pairs_more, reading_of}
use Rattle.hex_io.specs.Reading.{digits_in}
use Rattle.hex_io.specs.Stream.{EndsDecoding, WroteBefore}
use Rattle.hex_io.specs.declared.stream.StreamFault.TheVariants.{Codec}
use Rattle.hex_io.proofs.DecoderLemmas.{count-but, digits-le}
use Rattle.hex_io.proofs.PutsLemmas.{Stops-then, Takes-then}
use Rattle.hex_io.proofs.StreamLemmas.{refused-end, refused-for}
use Rattle.hex_io.proofs.stream.decode_by_decoder.Goals as goal

pub returns-then-count-eq0 : goal.returns-then-count-eq0
returns-then-count-eq0 g c =
    let so_far = c.reads.invariant.1 in
    let none = rw c.if-count-eq0.true at c.in-Ok.ensures.bytes.0 in let end = c.in-Ok.ensures.bytes.1 c.if-count-eq0.true (search rules) in
    let spells = (c.in_ok-finish.ensures.answer so_far.0 so_far.1.0 so_far.1.1).1 in
    rw (← c.reads.invariant.0) (so_far.0, rw append-nil at (Consumes-trans _ _ _ so_far.0 [] so_far.1.3 none), (so_far.1.0, spells, so_far.1.2, so_far.1.4, end))

pub returns-in_err-finish : goal.returns-in_err-finish
returns-in_err-finish g c =
    let so_far = c.reads.invariant.1 in let has = so_far.1.1 in let r = reading_of c.reads.decoder in
    let none = rw c.if-count-eq0.true at c.in-Ok.ensures.bytes.0 in let end = c.in-Ok.ensures.bytes.1 c.if-count-eq0.true (search rules) in
    let left = g.R.Read.remaining c.read_again.new.reader in let old = g.S.Sink.state c.args.sink.now in let new = g.S.Sink.state c.reads.sink in
    let (_, is, gives) = err_from_is_err_and c.from_residual.result c.from_residual.ensures.1 in
    rw (← c.reads.invariant.0, is, gives) (
      so_far.0,
      rw append-nil at (Consumes-trans _ _ _ so_far.0 [] so_far.1.3 none),
      refused-end (λ e. EndsDecoding r so_far.0 left old new (Err (Codec e))) r so_far.0 left _ has.1.valid (c.in_err-finish.ensures.answer so_far.0 so_far.1.0 has) end
          (λ odd. (record { bytes = so_far.1.0; waiting = _; spelled = has.1; put = so_far.1.4 }, odd)),
    )

pub returns-in_err-written : goal.returns-in_err-written
returns-in_err-written g c =
    let so_far = c.reads.invariant.1 in let has = so_far.1.1 in let r = reading_of c.reads.decoder in
    let piece = take c.in-Ok.count c.read_again.new.buf in
    let size = length-take-le c.in-Ok.count c.read_again.new.buf c.in-Ok.ensures.bound.0 in
    let left = g.R.Read.remaining c.read_again.new.reader in let old = g.S.Sink.state c.args.sink.now in let new = g.S.Sink.state c.reads.sink in
    let fits : pairs_more (length (digits_in r so_far.0)) (length (digits_in r piece)) ≤ length c.reads.bytes = omega (arith, size, c.in-Ok.ensures.bound.0, digits-le r.case r.skips piece) in
    let wrote : WroteBefore r (so_far.0 ++ piece) old new =
    record { fed = so_far.0; chunk = piece; parts = refl; short = omega (arith, size, c.in-Ok.ensures.bound.0); wrote = record { bytes = so_far.1.0; waiting = _; spelled = has.1; put = so_far.1.4 } } in
    let (_, is, gives) = err_from_is_err_and c.from_residual-in_err-written.result c.from_residual-in_err-written.ensures.1 in
    rw (← c.reads.invariant.0, is, gives) (
      so_far.0 ++ piece,
      Consumes-trans _ _ _ _ _ so_far.1.3 c.in-Ok.ensures.bytes.0,
      refused-for (λ e. EndsDecoding r (so_far.0 ++ piece) left old new (Err (Codec e))) r so_far.0 piece _ _ fits (c.in_err-written.ensures.feeds so_far.0 so_far.1.0 has) (λ all. (wrote, all)) (λ i b byte. (wrote, byte)),
    )

pub returns-in_err-put_all : goal.returns-in_err-put_all
returns-in_err-put_all g c =
    let so_far = c.reads.invariant.1 in
    let fed = (c.in_ok-written.ensures.feeds so_far.0 so_far.1.0 so_far.1.1).1 in
    let put = rw (fed.2, fed.1, take-append_seam) at c.in_err-put_all.ensures.puts in
    let (_, is, gives) = err_from_is_err_and c.from_residual-in_err-put_all.result c.from_residual-in_err-put_all.ensures.1 in
    rw (← c.reads.invariant.0, ← c.in_ok-written.ensures.reading, is, gives) (
      so_far.0 ++ take c.in-Ok.count c.read_again.new.buf,
      Consumes-trans _ _ _ _ _ so_far.1.3 c.in-Ok.ensures.bytes.0,
      record { bytes = so_far.1.0 ++ fed.0; waiting = c.feed_through.new.self.waiting; spelled = fed.3.1; put = Stops-then _ _ _ _ _ so_far.1.4 put },
    )

pub reads-smaller : goal.reads-smaller
reads-smaller g c =
    let so_far = c.reads.invariant.1 in
    let piece = take c.in-Ok.count c.read_again.new.buf in
    let size = length-take-le c.in-Ok.count c.read_again.new.buf c.in-Ok.ensures.bound.0 in
    let fed = c.in_ok-written.ensures.feeds so_far.0 so_far.1.0 so_far.1.1 in
    let few : length so_far.0 + length piece < 2 ^ 64 = grind (arith, nat_tests, fed.0) in
    omega (arith, size, so_far.1.1.0, fed.1.3.0, length-append so_far.0 piece, few)

pub reads-preserved : goal.reads-preserved
reads-preserved g c =
    let so_far = c.reads.invariant.1 in
    let fed = (c.in_ok-written.ensures.feeds so_far.0 so_far.1.0 so_far.1.1).1 in
    let put = rw (fed.2, fed.1, take-append_seam) at c.in_ok-put_all.ensures.puts in (
      c.in_ok-written.ensures.reading ∙ c.reads.invariant.0,
      (
        so_far.0 ++ take c.in-Ok.count c.read_again.new.buf,
        (
          so_far.1.0 ++ fed.0,
          fed.3,
          omega (arith, so_far.1.2, fed.1, length-append so_far.1.0 fed.0),
          Consumes-trans _ _ _ _ _ so_far.1.3 c.in-Ok.ensures.bytes.0,
          Takes-then _ _ _ _ _ so_far.1.4 put,
        ),
      ),
    )

pub overflow_add-total : goal.overflow_add-total
overflow_add-total g c =
    let so_far = c.reads.invariant.1 in let r = reading_of c.feed_through.new.self in
    let piece = take c.in-Ok.count c.read_again.new.buf in
    let fed = c.in_ok-written.ensures.feeds so_far.0 so_far.1.0 so_far.1.1 in
    let few : length so_far.0 + length piece < 2 ^ 64 = grind (arith, nat_tests, fed.0) in
    let count = count-but r.case (digits_in r (so_far.0 ++ piece)) (so_far.1.0 ++ fed.1.0) c.feed_through.new.self.waiting fed.1.3.1 in
    omega (arith, few, count, digits-le r.case r.skips (so_far.0 ++ piece), length-append so_far.0 piece, length-append so_far.1.0 fed.1.0, so_far.1.2, fed.1.1)
