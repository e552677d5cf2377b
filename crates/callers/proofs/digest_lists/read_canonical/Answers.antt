-- What a strict policy reads is written as the list that was read.
use Rattle.std.proofs.Common.{vec_items}
use Rattle.std.proofs.lemmas.Result.{MatchResult-weaker}
use Rattle.hex_core.specs.Text.{lowercase}
use Rattle.callers.proofs.digest_lists.read_canonical.Goals as goal

pub returns-clause-written : goal.returns-clause-written
returns-clause-written c = MatchResult-weaker c.read.result c.read.ensures.answer (λ entries lists. c.writing_inverts_strict_reading.ensures.inverts 32 lowercase c.args.list.now (vec_items entries) lists) (λ e why. tt)
