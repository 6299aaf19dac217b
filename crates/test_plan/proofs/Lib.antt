-- The lemma files, which other crates may cite.
pub mod LiveLemmas
pub mod AscendingLemmas
pub mod TableLemmas
