-- The digits have two bytes for each of the view's, and one for each separator.
use Rattle.std.proofs.Common.{◌≡◌, ◌+◌, ◌*◌, ap, arith, length, length-append}
use Rattle.hex_core.proofs.TextLemmas.{length-text}
use Rattle.hex_codec.proofs.GroupLemmas.{length-grouped}
use Rattle.hex_io.specs.Frame.{digits_of, sign_and_prefix}
use Rattle.hex_io.proofs.padding.padding_len.Goals.{in-None, in-Some-group}
use Rattle.hex_io.proofs.padding.padding_len.Goals as goal

pub returns : goal.returns
returns c =
    let flags = c.args.flags.now in let bytes = c.args.bytes.now in
    let size : length (digits_of flags bytes) ≡ 2 * length bytes + c.match-flags-2.separators = elim c.match-flags-2.branch [
      | in-None w ↦ rw w.in-None.is (omega (arith, w.separators-is, length-text flags.upper bytes))
      | in-Some-group w ↦ rw w.in-Some-group.is
          (omega (arith, w.separators-is, w.saturating_sub-separators.ensures, rw w.every.ensures.value at w.div_ceil.ensures, length-grouped w.in-Some-group.group flags.upper bytes))
    ] in
    rw c.in-Some.is (omega (arith, ap length c.requires, length-append (sign_and_prefix flags) (digits_of flags bytes), size))
