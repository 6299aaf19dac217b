-- Definitions that public contracts use
pub mod Changes
pub mod Effects
pub mod Refusals
pub mod RunLaws
pub mod Runs
-- Definitions that only private functions use
pub mod KeptSearch
pub mod Marks
