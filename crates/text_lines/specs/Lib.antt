-- definitions that public contracts use
pub mod Lines
pub mod Words
pub mod Numbers
-- definitions that only private contracts use
pub mod NumberPrefix
