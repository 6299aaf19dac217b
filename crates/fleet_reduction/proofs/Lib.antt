-- The lemma files. Crates that use this one may cite those that are pub.
pub mod SubfleetLemmas
pub mod PickedLemmas
mod AttemptLemmas
