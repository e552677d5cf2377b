use Rattle.std.proofs.Common.{rules, arith, ◌≡◌, ◌∷◌, ◌-◌, ◌<◌, ◌≤◌, length, length-drop, refl}
use Rattle.std.proofs.lemmas.List.{take_rest}
use Rattle.std.proofs.lemmas.Grind.{common_steps}
use Rattle.std.specs.Option.{option_to_list}
use Rattle.hex_io.proofs.DecoderLemmas.{count-but, pair-first}
use Rattle.hex_io.proofs.stream.decoder.decode_pairs.Goals as goal

pub returns : goal.returns
returns c =
    let rest = c.in_ok-waiting.ensures in
    let but = rw (take_rest c.args.src.now 1) at rest.1 in
    let some : 0 < length c.args.src.now = search rules in
    let one : length (option_to_list c.args.waiting) ≡ 1 = rw c.in-Some.is refl in
    let count = count-but _ _ rest.0 c.in_ok-waiting.waiting but in
    let room : 0 < length c.args.dst.now = omega (arith, one, some, c.requires.room) in
    let fits : length rest.0 ≤ length c.args.dst.now - 1 = omega (arith, one, some, c.requires.room, count.0, length-drop 1 c.args.src.now) in (
      c.in_ok-byte.byte ∷ rest.0,
      rw c.in-Some.is (pair-first _ _ _ _ _ _ some c.in_ok-byte.ensures but),
      grind (arith, common_steps, room, fits, rest.2),
    )
