-- definitions that public contracts use
pub mod Cost
pub mod Instance
pub mod Laws
pub mod Lending
pub mod Limits
pub mod Request
-- definitions that only private contracts use
pub mod StopEntry
