-- definitions that public contracts use
pub mod Formats
pub mod Names
pub mod ReadBack
pub mod Texts
