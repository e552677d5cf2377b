-- Each table is what the definition computes to.
use Rattle.std.proofs.Common.{◌≡◌, refl}
use Rattle.hex_core.specs.declared.digit.CheckCase.TheVariants as policy
use Rattle.hex_core.specs.declared.tables.TheConstants.{VALUES, VALUES_LOWER, VALUES_UPPER}
use Rattle.hex_core.specs.inside.Tables.{value_table}
use Rattle.hex_core.proofs.tables.values_of.Goals as goal

tables : (VALUES ≡ value_table policy.None) × (VALUES_LOWER ≡ value_table policy.Lower) × (VALUES_UPPER ≡ value_table policy.Upper)
unfolding value_table
tables = (refl, refl, refl)

pub returns-in-None : goal.returns-in-None
returns-in-None c = rw c.in-None.is tables.0

pub returns-in-Lower : goal.returns-in-Lower
returns-in-Lower c = rw c.in-Lower.is tables.1

pub returns-in-Upper : goal.returns-in-Upper
returns-in-Upper c = rw c.in-Upper.is tables.2
