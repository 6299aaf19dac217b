-- The lemma files, which crates that use this one may cite.
pub mod RouteLemmas
pub mod SlackLemmas
