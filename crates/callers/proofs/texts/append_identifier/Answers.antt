-- The digits of bytes are UTF-8, so they are read as text.
use Rattle.std.proofs.Common.{rules, ◌<◌}
use Rattle.std.proofs.lemmas.List.Elements.{All-from_get_or}
use Rattle.hex_core.specs.Text.{lowercase}
use Rattle.callers.proofs.texts.append_identifier.Goals as goal

pub unwrap-requires : goal.unwrap-requires
unwrap-requires g c =
    let id = c.args.id.now in
    let utf8 = (c.a_text_is_ascii_and_twice_as_long.ensures.ascii lowercase id (All-from_get_or (λ b. b < 256) id 0 (λ i _. c.fits-id i))).1 in
    search rules
