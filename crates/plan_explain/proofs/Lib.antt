-- The lemma files of this crate.
pub mod AfterCostLemmas
pub mod RouteLemmas
pub mod RowLemmas
