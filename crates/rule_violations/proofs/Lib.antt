-- Lemma files that other crates may cite.
pub mod LawProofs
pub mod ListLemmas
pub mod MissingLemmas
pub mod PlaceLemmas
pub mod ReturnLemmas
pub mod RuleLemmas
pub mod PositionLemmas
pub mod StepLemmas
pub mod StopLemmas
pub mod VerdictLemmas
pub mod KnownScheduleLemmas
