-- definitions that public contracts use
pub mod Distance
pub mod NearestRoot
