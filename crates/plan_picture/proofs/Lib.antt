-- The lemma files, which crates that use this one may cite.
pub mod KeptLemmas
pub mod LawProofs
pub mod LegLemmas
pub mod MapReadLemmas
pub mod PartLemmas
pub mod PictureReadLemmas
pub mod PieceLemmas
pub mod ReadLemmas
pub mod TableReadLemmas
