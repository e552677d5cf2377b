-- Each table is what the definition computes to.
use Rattle.std.proofs.Common.{◌≡◌, refl, true, false}
use Rattle.hex_core.specs.declared.tables.TheConstants.{DIGITS_LOWER, DIGITS_UPPER}
use Rattle.hex_core.specs.inside.Tables.{digits_table}
use Rattle.hex_core.proofs.tables.digit_pairs_of.Goals as goal

tables : (DIGITS_UPPER ≡ digits_table true) × (DIGITS_LOWER ≡ digits_table false)
unfolding digits_table
tables = (refl, refl)

pub returns-then-upper : goal.returns-then-upper
returns-then-upper c = rw c.if-upper.true tables.0

pub returns-else-upper : goal.returns-else-upper
returns-else-upper c = rw c.if-upper.false tables.1
