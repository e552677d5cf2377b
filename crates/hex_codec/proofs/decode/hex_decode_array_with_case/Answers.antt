use Rattle.std.proofs.Common.{Ok, ap}
use Rattle.hex_codec.proofs.SpelledLemmas.{none_invalid, one_list}
use Rattle.hex_codec.proofs.decode.hex_decode_array_with_case.Goals as goal

pub returns-in-Err-clause-spelled : goal.returns-in-Err-clause-spelled
returns-in-Err-clause-spelled g c = λ bytes spelled size. absurd (cc (c.in-Err.ensures, none_invalid c.args.case c.args.src.now bytes spelled))

pub returns-in-Ok-clause-spelled : goal.returns-in-Ok-clause-spelled
returns-in-Ok-clause-spelled g c = λ bytes spelled size. ap Ok (one_list c.args.case c.args.src.now _ bytes c.in-Ok.ensures.1 spelled)
