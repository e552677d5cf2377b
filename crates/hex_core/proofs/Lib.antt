pub mod AsciiLemmas
mod BlockLemmas
pub mod ByteLemmas
pub mod JoinLemmas
mod LaneLemmas
pub mod LawProofs
mod LookupLemmas
mod OwnedLemmas
mod PairLemmas
pub mod PositionLemmas
pub mod SearchLemmas
pub mod SliceWalk
mod SpellsLemmas
mod TableLemmas
pub mod TextLemmas
