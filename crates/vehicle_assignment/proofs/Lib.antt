-- Lemma files that other crates may cite.
pub mod AssignLemmas
pub mod FillLemmas
pub mod FoundLemmas
pub mod LawProofs
pub mod PassLemmas
pub mod AssignedLemmas
