-- Its offset and its bytes are what the parts of the line spell.
use Rattle.std.proofs.Common.{◌≡◌, length, arith}
use Rattle.hex_core.specs.declared.digit.CheckCase.TheVariants as policy
use Rattle.hex_core.specs.Text.{Spells, lowercase, text}
use Rattle.hex_codec.specs.GroupedWriting.{grouped}
use Rattle.hex_codec.specs.GroupedReading.{GroupSpells}
use Rattle.callers.proofs.undump.read_line.Goals as goal

pub returns-in-Ok-read_into-clause-written : goal.returns-in-Ok-read_into-clause-written
returns-in-Ok-read_into-clause-written c =
    let read = c.in-Ok-read_into.ensures.answer.1 in
    let first = c.encoding_inverts_strict_decoding.ensures.inverts lowercase _ _ c.in-Ok.ensures.answer.1 in
    let second = c.grouping_inverts_strict_reading.ensures.inverts c.args.group lowercase _ read.0 read.1 in
    (read.0, rw (first, second) c.in_ok-offset.ensures.parts, read.2, read.3)

pub returns-in-Ok-read_into-clause-read : goal.returns-in-Ok-read_into-clause-read
returns-in-Ok-read_into-clause-read c = λ offset bytes small others four fits is.
    let eight : length (text lowercase offset) ≡ 8 = omega (arith, c.a_text_is_ascii_and_twice_as_long.ensures.twice lowercase offset, four) in
    let parts = c.in_ok-offset.ensures.all (text lowercase offset) (grouped c.args.group lowercase bytes) eight is in
    let spelled : Spells policy.Lower c.in_ok-offset.offset.now offset = rw parts.0 (c.decoding_inverts_encoding.ensures.inverts lowercase offset small).0 in
    let shown : GroupSpells policy.Lower c.args.group c.in_ok-offset.digits.now bytes = rw parts.1 (c.reading_inverts_grouping.ensures.inverts c.args.group lowercase bytes others).0 in
    let first = c.in-Ok.ensures.spelled offset spelled four in
    let second = c.in-Ok-read_into.ensures.read bytes shown fits in
    (cc (first, second.0), second.1)

pub returns-in-Err-clause-read : goal.returns-in-Err-clause-read
returns-in-Err-clause-read c = λ offset bytes small others four fits is.
    let eight : length (text lowercase offset) ≡ 8 = omega (arith, c.a_text_is_ascii_and_twice_as_long.ensures.twice lowercase offset, four) in
    let parts = c.in_ok-offset.ensures.all (text lowercase offset) (grouped c.args.group lowercase bytes) eight is in
    let shown : GroupSpells policy.Lower c.args.group c.in_ok-offset.digits.now bytes = rw parts.1 (c.reading_inverts_grouping.ensures.inverts c.args.group lowercase bytes others).0 in
    let read = c.in-Err.ensures.read bytes shown fits in absurd (cc read.0)
