-- The lemma files, which crates above may cite.
pub mod RepeatLemmas
pub mod CutLemmas
pub mod FieldLemmas
pub mod FreezeLemmas
pub mod ReachLemmas
pub mod ReadLemmas
pub mod ReadingLemmas
pub mod RouteLemmas
pub mod ScanLemmas
pub mod VehicleAssignmentLemmas
pub mod StagingLemmas
pub mod StateLemmas
pub mod StepLemmas
pub mod VerbLemmas
