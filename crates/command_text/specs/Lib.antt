-- Definitions in public contracts.
pub mod Answering
pub mod Answers
pub mod Parsing
pub mod Cutting
pub mod Freezing
pub mod Laws
pub mod Questions
pub mod Readings
pub mod Scanning
pub mod Showing
pub mod Staging
-- Definitions in the contracts of private functions.
pub mod Lines
pub mod Numbers
