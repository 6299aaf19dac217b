-- The lemma files, which crates above this one may use.
pub mod AdoptLemmas
pub mod WarningLemmas
pub mod OkLemmas
pub mod OpenLemmas
pub mod ReadLemmas
pub mod SolvesLemmas
pub mod CrashLemmas
pub mod StoreLemmas
pub mod MessageLemmas
