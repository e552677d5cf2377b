-- No name before the place is bad.
use Rattle.std.proofs.Common.{◌≡◌, ◌<◌, ℕ, false, get_or}
use Rattle.hex_io.specs.declared.digests.Entry.{Entry}
use Rattle.hex_io.specs.Lists.{is_bad_name}
use Rattle.hex_io.proofs.digests.bad_name.Given as goal

abbrev pub invariant-entries : goal.invariant-entries
invariant-entries g l = (k : ℕ) (d : Entry g.row.N) → k < l.i → is_bad_name (get_or l.entries k d).name.now ≡ false
