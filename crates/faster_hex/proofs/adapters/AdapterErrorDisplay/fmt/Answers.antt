-- What is written is the text of the case, grouped as the definition groups it.
use Rattle.faster_hex.proofs.adapters.AdapterErrorDisplay.fmt.Goals as goal

pub returns-in-OverBound-clause-writes : goal.returns-in-OverBound-clause-writes
returns-in-OverBound-clause-writes g c = rw c.in-OverBound.is c.write-in-OverBound.ensures.writes
