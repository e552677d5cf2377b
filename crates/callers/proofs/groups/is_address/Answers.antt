use Rattle.hex_core.specs.declared.digit.CheckCase.TheVariants as policy
use Rattle.callers.proofs.groups.is_address.Goals as goal

pub returns-in-Ok : goal.returns-in-Ok
returns-in-Ok c = (λ _. (c.a_grouped_text_is_read_where_it_spells_a_list.ensures.some policy.None c.args.group c.args.text.now 6).0 c.in-Ok.ensures.answer.0, λ _. cc)

pub returns-in-Err : goal.returns-in-Err
returns-in-Err c = (
  λ yes. absurd (cc yes),
  λ spelled.
      let none = (c.a_grouped_text_is_read_where_it_spells_a_list.ensures.some policy.None c.args.group c.args.text.now 6).1 spelled in
      absurd (cc (none, c.in-Err.ensures.answer)),
)
