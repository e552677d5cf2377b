mod ChunkFacts
mod PutsLemmas
mod ContinueLemmas
mod DecoderLemmas
mod StreamLemmas
mod EntryLemmas
mod LineLemmas
mod NameLemmas
