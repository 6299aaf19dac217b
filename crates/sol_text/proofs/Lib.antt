-- The lemma files, which other crates may cite.
pub mod FaultLemmas
pub mod ReadLemmas
pub mod ShapeLemmas
pub mod TextLemmas
pub mod ReadBackLemmas
