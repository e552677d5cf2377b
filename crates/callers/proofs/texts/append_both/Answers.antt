-- The texts of both parts, joined, are that of the joined parts.
use Rattle.std.proofs.Common.{rules, append_assoc}
use Rattle.std.specs.Prelude.{string_bytes}
use Rattle.hex_core.specs.Text.{lowercase, text}
use Rattle.callers.proofs.texts.append_both.Goals as goal

pub returns : goal.returns
returns g c =
    let first = c.args.first.now in let second = c.args.second.now in
    rw (
      c.the_text_of_a_joined_list_is_the_texts_joined.ensures.joined lowercase first second,
      ← append_assoc (string_bytes c.args.line.now) (text lowercase first) (text lowercase second),
    ) (search rules)
