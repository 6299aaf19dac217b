-- definitions that public contracts use
pub mod Faults
pub mod Laws
pub mod LineShapes
pub mod Names
pub mod Values
pub mod Written
-- definitions that only private contracts use
pub mod Reading
