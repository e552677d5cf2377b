use Rattle.std.proofs.Common.{rules, arith, ◌≡◌, ◌∙◌, ◌+◌, ◌^◌, ◌<◌, length, refl, sym}
use Rattle.hex_io.specs.Reading.{digits_in}
use Rattle.hex_codec.specs.Spaced.{unspaced}
use Rattle.hex_io.proofs.DecoderLemmas.{count-but, none-invalid, refused-byte, invalid-behind-all}
use Rattle.hex_io.proofs.stream.decoder.Decoder.feed_long.Goals as goal

pub returns-then-not-is_clean-clause-feeds : goal.returns-then-not-is_clean-clause-feeds
returns-then-not-is_clean-clause-feeds c = λ fed written has.
    let d = c.args.self.now in let src = c.args.src.now in
    let few : d.position + length src < 2 ^ 64 = search rules in
    let count : length (digits_in d.reading src) ≡ length (unspaced src) = rw c.requires.skips refl in
    refused-byte d.reading fed src (length c.args.dst.now) (omega (arith, has.0, few))
    (omega (arith, count-but d.reading.case (digits_in d.reading fed) written d.waiting has.1, count, c.survey-count.ensures.count, c.whole_pairs-required.ensures, c.if-dst-required.false))
    ∙ sym (invalid-behind-all d.reading fed src d.position (none-invalid d.reading.case d.reading.skips fed has.1.valid) has.0) ∙ c.error_in.ensures
