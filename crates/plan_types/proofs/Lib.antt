-- The lemma files, which other crates may cite.
pub mod InsertLemmas
pub mod InstanceLemmas
pub mod LawProofs
pub mod LookupLemmas
pub mod TakeLemmas
pub mod RequestCounts
