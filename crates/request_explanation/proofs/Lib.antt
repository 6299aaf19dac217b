-- The lemmas that proofs of this crate cite.
pub mod AloneLemmas
pub mod AnywayLemmas
pub mod BestLemmas
pub mod FaultLemmas
pub mod LatestArrivalLemmas
pub mod LeastLemmas
pub mod MayTake
pub mod InsertionLemmas
pub mod TrialLemmas
