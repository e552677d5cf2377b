-- The refusal names the first invalid byte, which is in the text and has no value.
use Rattle.hex_core.specs.declared.digit.CheckCase.TheVariants as policy
use Rattle.callers.proofs.buffers.invalid_place.Goals as goal

pub returns-in-Err-InvalidChar-clause-bad : goal.returns-in-Err-InvalidChar-clause-bad
returns-in-Err-InvalidChar-clause-bad c =
    let text = c.args.text.now in
    let named = c.an_invalid_char_is_the_first_invalid_byte.ensures.array 4 policy.None text _ _ (rw c.in-Err-InvalidChar.field-0-is at c.in-Err-InvalidChar.ensures.answer) in
    (named.3, rw named.1 at named.2)
