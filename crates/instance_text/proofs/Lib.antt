-- The lemma files, which other crates may cite.
pub mod CustomerLemmas
pub mod EntryLemmas
pub mod HeadLemmas
pub mod KeyLemmas
pub mod LilimLemmas
pub mod LineLemmas
pub mod LookupLemmas
pub mod PlacedLemmas
pub mod SolomonLemmas
pub mod ReadBack
pub mod SectionLemmas
pub mod TaskLemmas
pub mod VrpLemmas
pub mod WriteLemmas
