-- Definitions that public contracts use
pub mod Bytes
pub mod Fields
pub mod Laws
pub mod Lengths
pub mod Limits
pub mod Reading
pub mod DecodeResults
-- Definitions that only private functions use
pub mod FilledProblem
pub mod Parts
pub mod Records
pub mod Sector
