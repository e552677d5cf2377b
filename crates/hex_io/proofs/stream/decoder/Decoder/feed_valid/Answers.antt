use Rattle.std.proofs.Common.{◌≡◌, ℕ, List, arith, ap, ◌∙◌, ◌++◌, length, length-append}
use Rattle.std.specs.Option.{option_to_list}
use Rattle.hex_core.proofs.JoinLemmas.{valid-parts}
use Rattle.hex_core.specs.declared.digit.CheckCase.{CheckCase}
use Rattle.hex_io.specs.Reading.{SpellsBut, digits_in}
use Rattle.hex_io.proofs.DecoderLemmas.{but-joined, count-but, digits-joined, digits-le, digits-own, none-refused}
use Rattle.hex_io.proofs.DecoderLemmas.{read-valid, refused-byte}
use Rattle.hex_io.proofs.stream.decoder.Decoder.feed_valid.Goals as goal

spelled-own : (c : CheckCase) (waiting digits own bytes next : List ℕ) → digits ≡ own → SpellsBut c (waiting ++ digits) bytes next → SpellsBut c (waiting ++ own) bytes next
spelled-own c waiting digits own bytes next is but = rw is at but

pub invariant_of-self : goal.invariant_of-self
invariant_of-self c =
    let d = c.args.self.now in let src = c.args.src.now in let r = d.reading in
    let decoded = rw c.in_ok-waiting.was at c.decode_pairs.ensures in
    let but = decoded.1 in
    let parts = valid-parts r.case (option_to_list d.waiting) c.args.digits.now but.valid in
    let own = digits-own r.case r.skips c.args.digits.now src c.requires.digits parts.1 in
    let count = count-but r.case _ decoded.0 c.in_ok-waiting.waiting but in
    let size = length-append (option_to_list d.waiting) c.args.digits.now in
    record {
      tested = read-valid _ _ (valid-parts _ but.pairs _ (rw but.parts at but.valid)).1;
      counted = omega (arith, d.counted, count, size, ap length own, digits-le r.case r.skips src, c.in_ok-position.ensures);
      paired = λ plain. omega (arith, d.paired plain, count, size, ap length (rw plain at own), c.in_ok-position.ensures);
    }

pub returns-clause-feeds : goal.returns-clause-feeds
returns-clause-feeds c = λ fed written has.
    let d = c.args.self.now in let src = c.args.src.now in let r = d.reading in
    let decoded = rw c.in_ok-waiting.was at c.decode_pairs.ensures in
    let parts = valid-parts r.case (option_to_list d.waiting) c.args.digits.now decoded.1.valid in
    let own = digits-own r.case r.skips c.args.digits.now src c.requires.digits parts.1 in
    let but = spelled-own r.case (option_to_list d.waiting) _ _ _ _ own decoded.1 in let size = ap length own in
    let before = count-but r.case (digits_in r fed) written d.waiting has.1 in
    let after = count-but r.case _ decoded.0 c.in_ok-waiting.waiting but in
    let joined = rw (← digits-joined r.case r.skips fed src) at (but-joined r.case (digits_in r fed) (digits_in r src) written decoded.0 (option_to_list d.waiting) _ has.1 but) in (
      refused-byte r fed src (length c.args.dst.now) (omega (arith, has.0, c.in_ok-position.ensures))
          (omega (arith, before, size, c.whole_pairs-required.ensures, c.if-dst-required.false)) ∙ none-refused r (fed ++ src) joined.valid,
      (
        decoded.0,
        omega (arith, size, c.whole_pairs-required.ensures, after, length-append (option_to_list d.waiting) (digits_in r src)),
        decoded.2,
        (omega (arith, c.in_ok-position.ensures, has.0, length-append fed src), joined),
      ),
    )
