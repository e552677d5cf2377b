-- How long a text of a format is.
use Rattle.std.proofs.Common.{◌≡◌, ℕ, ◌+◌, ◌*◌, List, length, length-append, arith}
use Rattle.hex_core.specs.Text.{text}
use Rattle.hex_core.proofs.TextLemmas.{length-text}
use Rattle.faster_hex.specs.declared.adapters.WireFormat.{WireFormat}
use Rattle.faster_hex.specs.Adapters.{prefix, wire_text}

pub wire_length : (p : WireFormat) (bytes : List ℕ) → length (wire_text p bytes) ≡ length (prefix p) + 2 * length bytes
wire_length p bytes = omega (arith, length-append (prefix p) (text p.upper bytes), length-text p.upper bytes)
