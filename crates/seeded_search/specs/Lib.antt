-- definitions that public contracts use
pub mod ChaCha20
pub mod Words
pub mod Laws
pub mod Steps
pub mod StepLaws
-- definitions that only private contracts use
pub mod Draws
pub mod Generator
pub mod Names
pub mod SpatialIndex
pub mod SearchStates
