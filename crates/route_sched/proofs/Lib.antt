-- Lemma files that other crates may cite.
pub mod AgreementLemmas
pub mod Chains
pub mod Concats
pub mod CountLemmas
pub mod KnownStops
pub mod Steps
pub mod VisitLemmas
