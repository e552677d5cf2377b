-- What is written is the text of the case, grouped as the definition groups it.
use Rattle.std.proofs.Common.{◌≡◌, ◌<◌, ◌^◌, ◌-◌, Some, false, [], ap, ◌∙◌, arith}
use Rattle.std.specs.Option.{option_map}
use Rattle.std.specs.Fmt.{styled_digits_output, padded_integral, format_spec}
use Rattle.std.proofs.lemmas.Fmt.{hex_byte}
use Rattle.hex_core.specs.Text.{digits, lowercase}
use Rattle.hex_core.proofs.error.ErrorDisplay.fmt.Goals as goal

pub returns-in-InvalidChar-clause-writes : goal.returns-in-InvalidChar-clause-writes
returns-in-InvalidChar-clause-writes g c =
    let byte : c.in-InvalidChar.byte < 256 = omega arith in
    let shown : styled_digits_output c.in_radix.result c.laid_out.result ≡ Some (digits lowercase c.in-InvalidChar.byte) =
    rw c.laid_out.ensures (ap (option_map (padded_integral (format_spec 32 0 4 2 (2 ^ 64 - 1)) false [])) c.in_radix.ensures ∙ ap (λ t. Some t) (hex_byte false c.in-InvalidChar.byte byte)) in
    rw c.in-InvalidChar.is (rw shown at c.write.ensures.writes)

pub returns-in-LengthMismatch-clause-writes : goal.returns-in-LengthMismatch-clause-writes
returns-in-LengthMismatch-clause-writes g c = rw c.in-LengthMismatch.is c.write-in-LengthMismatch.ensures.writes
