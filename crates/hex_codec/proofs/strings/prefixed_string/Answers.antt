-- The prefix and the digits that were written are UTF-8.
use Rattle.std.proofs.Common.{◌≡◌, ◌++◌, drop, length, length-append, arith}
use Rattle.std.proofs.lemmas.List.{take_at}
use Rattle.std.proofs.lemmas.Str.{IsAscii-append, IsUtf8-from_ascii}
use Rattle.hex_core.specs.Text.{text}
use Rattle.hex_core.proofs.TextLemmas.{length-text}
use Rattle.hex_core.proofs.AsciiLemmas.{IsAscii-text}
use Rattle.hex_codec.proofs.strings.prefixed_string.Goals as goal

pub from_utf8_unchecked-requires : goal.from_utf8_unchecked-requires
from_utf8_unchecked-requires g c =
    let digits = text c.args.upper c.args.src.now in
    let shown = c.args.prefix.now ++ digits in
    let size : length shown ≡ c.in-Ok.string.len = omega (arith, length-append c.args.prefix.now digits, length-text c.args.upper c.args.src.now, c.in-Some.ensures, c.in-Some-checked_add.ensures, c.in-Ok.ensures.len) in
    rw (c.write_prefixed.ensures, take_at shown (drop (length shown) c.in-Ok.string.items) c.in-Ok.string.len size)
    (IsUtf8-from_ascii _ (IsAscii-append c.args.prefix.now digits c.requires (IsAscii-text c.args.upper c.args.src.now (λ i. (c.type_inv.src i).fits))))
