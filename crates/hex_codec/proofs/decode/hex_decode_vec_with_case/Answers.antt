use Rattle.std.proofs.Common.{arith, ◌∙◌}
use Rattle.std.proofs.lemmas.List.{take_at}
use Rattle.hex_codec.proofs.SpelledLemmas.{none_invalid, one_list}
use Rattle.hex_codec.proofs.decode.hex_decode_vec_with_case.Goals as goal

pub returns-in_err-decode_discarding-clause-spelled : goal.returns-in_err-decode_discarding-clause-spelled
returns-in_err-decode_discarding-clause-spelled g c = λ bytes spelled. absurd (cc (c.in_err-decode_discarding.ensures, none_invalid c.args.case c.args.src.now bytes spelled))

pub returns-clause-spelled : goal.returns-clause-spelled
returns-clause-spelled g c = λ bytes spelled.
    let decoded = c.in_ok-decode_discarding.ensures.1 in let twice = decoded.twice in
    take_at c.decode_discarding.new.dst _ c.in-Ok.bytes.len (omega (arith, twice, c.in-Ok.ensures.len)) ∙ one_list c.args.case c.args.src.now _ bytes decoded spelled
