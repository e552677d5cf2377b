-- A grouped text spells one list at most, and where it spells one that fits nothing is refused.
use Rattle.std.proofs.Common.{ℕ, List, length, Result, Ok, Err, ap}
use Rattle.hex_core.specs.declared.digit.CheckCase.{CheckCase}
use Rattle.hex_codec.specs.declared.group.Group.{Group}
use Rattle.hex_codec.specs.declared.grouped.GroupFault.{GroupFault}
use Rattle.hex_codec.specs.GroupCalls.{FrontIsRead, Reads}
use Rattle.hex_codec.proofs.GroupTextLemmas.{one-spelled, read-spelled}
use Rattle.hex_codec.proofs.grouped.read_into.Goals as goal

front : (c : CheckCase) (group : Group) (s old new : List ℕ) (result : Result ℕ GroupFault) → Reads c group s old new result → FrontIsRead c group s old new result
front c group s old new (Ok n) answer = λ bytes spelled fits.
    let same = one-spelled c group s answer.1.0 bytes answer.1.1 spelled in rw (← same) (ap Ok answer.1.2, answer.1.3)
front c group s old new (Err e) answer = λ bytes spelled fits.
    let none = (read-spelled c group s (length old)).1 (bytes, spelled, fits) in absurd (cc (answer.0, none))

pub returns-clause-read : goal.returns-clause-read
returns-clause-read c = front c.args.case c.args.group c.args.src.now c.args.dst.now c.read_front.new.dst c.read_front.result c.read_front.ensures
