-- What is written is the text of the case, grouped as the definition groups it.
use Rattle.std.proofs.Common.{◌≡◌, ◌<◌, ◌^◌, ◌-◌, Some, false, [], ap, ◌∙◌, arith}
use Rattle.std.specs.Option.{option_map}
use Rattle.std.specs.Fmt.{styled_digits_output, padded_integral, format_spec}
use Rattle.std.proofs.lemmas.Fmt.{hex_byte}
use Rattle.hex_core.specs.Text.{digits, lowercase}
use Rattle.hex_codec.proofs.grouped.GroupFaultDisplay.fmt.Goals as goal

pub returns-in-InvalidByte-clause-writes : goal.returns-in-InvalidByte-clause-writes
returns-in-InvalidByte-clause-writes g c =
    let byte : c.in-InvalidByte.byte < 256 = omega arith in
    let shown : styled_digits_output c.in_radix.result c.laid_out.result ≡ Some (digits lowercase c.in-InvalidByte.byte) =
    rw c.laid_out.ensures (ap (option_map (padded_integral (format_spec 32 0 4 2 (2 ^ 64 - 1)) false [])) c.in_radix.ensures ∙ ap (λ t. Some t) (hex_byte false c.in-InvalidByte.byte byte)) in
    rw c.in-InvalidByte.is (rw shown at c.write.ensures.writes)
