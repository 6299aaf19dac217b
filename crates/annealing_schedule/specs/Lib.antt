-- definitions that public contracts use
pub mod Stages
