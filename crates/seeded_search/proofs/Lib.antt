-- The lemma files. Crates that use this one may cite those that are `pub`.
mod BlockLemmas
mod DrawLemmas
mod Examples
pub mod NameLemmas
mod SpatialIndexLemmas
mod PickLemmas
pub mod PlacingLemmas
mod RouteLemmas
mod StepExamples
mod StepLemmas
pub mod SearchLemmas
