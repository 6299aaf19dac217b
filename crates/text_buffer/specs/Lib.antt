-- definitions that public contracts use
pub mod Columns
