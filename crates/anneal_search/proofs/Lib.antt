-- The lemma files. Crates that use this one may cite those that are `pub`.
mod AnnealLemmas
mod BoundLemmas
mod CutLemmas
mod NearestStopLemmas
mod LeftOutLemmas
mod ScanLemmas
mod ScanOrderLemmas
mod UnplannedNameLemmas
mod NearLemmas
mod NearestLemmas
mod OrderLemmas
pub mod PlacedLemmas
mod PlannedLemmas
pub mod SortLemmas
mod HintLemmas
mod StopLemmas
mod StringExamples
mod StringLemmas
mod AttemptLemmas
