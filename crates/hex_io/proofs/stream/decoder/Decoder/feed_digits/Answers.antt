use Rattle.std.proofs.Common.{rules, arith, ap, ◌≡◌, ◌∙◌, ◌+◌, ◌^◌, ◌<◌, length, sym}
use Rattle.hex_io.specs.Decoder.{waiting_in}
use Rattle.hex_io.specs.Reading.{digits_in}
use Rattle.hex_io.proofs.DecoderLemmas.{count-but, digits-valid, invalid-behind-all, none-invalid, refused-byte}
use Rattle.hex_io.proofs.stream.decoder.Decoder.feed_digits.Goals as goal

pub error_in-requires-clause-invalid : goal.error_in-requires-clause-invalid
error_in-requires-clause-invalid c =
    let r = c.args.self.now.reading in
    let same : c.feed_valid.new.self ≡ c.args.self.now = search rules in
    λ none. c.feed_valid.ensures.refused (search rules) (search rules) (omega (arith, c.whole_pairs-required.ensures, ap (λ d. length (waiting_in d)) same, c.if-dst-required.false))
    (rw c.requires.digits ((digits-valid r.case r.skips c.args.src.now).0 (rw same at none)))

pub returns-clause-feeds : goal.returns-clause-feeds
returns-clause-feeds c = λ fed written has.
    let d = c.args.self.now in let src = c.args.src.now in
    let same : c.feed_valid.new.self ≡ d = search rules in
    let few : d.position + length src < 2 ^ 64 = search rules in
    refused-byte d.reading fed src (length c.args.dst.now) (omega (arith, has.0, few))
    (omega (arith, count-but d.reading.case (digits_in d.reading fed) written d.waiting has.1, ap length c.requires.digits, c.whole_pairs-required.ensures, ap (λ d. length (waiting_in d)) same, c.if-dst-required.false))
    ∙ sym (invalid-behind-all d.reading fed src d.position (none-invalid d.reading.case d.reading.skips fed has.1.valid) has.0) ∙ rw same at c.error_in.ensures
