-- definitions that public contracts use
pub mod Fleets
pub mod Attempts
pub mod Laws
-- definitions that only private contracts use
pub mod ReductionStates
