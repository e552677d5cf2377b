-- What stands behind the old text is UTF-8.
use Rattle.std.proofs.Common.{string_bytes}
use Rattle.std.proofs.Math.Seq.{drop-append_seam}
use Rattle.hex_core.specs.Text.{text}
use Rattle.hex_core.proofs.AsciiLemmas.{IsUtf8-text}
use Rattle.hex_codec.proofs.strings.append_in.Goals as goal

pub text_from-requires-clause-text : goal.text_from-requires-clause-text
text_from-requires-clause-text g c =
    let src = c.args.src.now in
    rw (c.as_bytes-start.ensures.value, c.in_ok-hex_append_into.ensures.appended.0, drop-append_seam (string_bytes c.args.dst.now) (text c.args.upper src))
    (IsUtf8-text c.args.upper src (λ i. (c.type_inv.src i).fits))
