-- All pairs are in the number, and its last bytes are stored.
use Rattle.std.proofs.Common.{◌≡◌, ◌/◌, length, sym, subst, ap, ◌∙◌, arith}
use Rattle.std.specs.Int.{bytes_high_first}
use Rattle.hex_core.specs.Text.{Spells}
use Rattle.hex_core.proofs.LawProofs.{valid-spelled}
use Rattle.hex_core.proofs.look_ups.decode_by_look_up.Goals as goal

pub returns-then-src-lt16 : goal.returns-then-src-lt16
returns-then-src-lt16 c =
    let s = c.args.src.now in
    let half : length s / 2 ≡ length c.args.dst.now = omega arith in
    let spells = subst (Spells c.args.case s) (ap (λ k. bytes_high_first k c.in-Some.word) half ∙ sym c.write_word.ensures) c.in-Some.ensures in
    (valid-spelled c.args.case s _ spells, spells)
