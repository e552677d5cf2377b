mod AppendWalk
pub mod CountLemmas
pub mod GroupLemmas
mod GroupTextLemmas
pub mod ListLemmas
mod SpelledLemmas
mod PartLemmas
pub mod SpacedLemmas
mod WriteLemmas
