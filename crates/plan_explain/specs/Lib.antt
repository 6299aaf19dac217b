-- The definitions that contracts use.
pub mod VerdictTexts
pub mod Quotes
pub mod Templates
pub mod EvidenceTexts
pub mod SolFaults
pub mod AfterCost
pub mod Refusals
pub mod Sentences
pub mod Summaries
pub mod Tables
pub mod IgnoredLimits
pub mod OtherViolations
