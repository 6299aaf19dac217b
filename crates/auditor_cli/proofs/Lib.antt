-- The lemma files, which crates above this one may use.
pub mod ExaminationLemmas
pub mod FileLemmas
pub mod ListLemmas
pub mod NoteLemmas
pub mod PartialLemmas
pub mod SpelledLemmas
pub mod ReadListLemmas
pub mod UsageLemmas
