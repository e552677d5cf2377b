-- The length in closed form, which takes one quotient.
use Rattle.std.proofs.Common.{rules}
use Rattle.hex_codec.proofs.CountLemmas.{len-closed}
use Rattle.hex_codec.proofs.grouped.grouped_len.Goals as goal

pub returns : goal.returns
returns c = simp (len-closed c.args.every c.args.len c.requires) (search rules)
