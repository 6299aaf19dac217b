-- The lemma files, which crates above may cite.
pub mod KindNames
pub mod CommandLemmas
