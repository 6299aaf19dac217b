-- modules that public contracts use
pub mod Layouts
pub mod Headers
pub mod Stores
pub mod Numbers
pub mod Holds
pub mod Places
pub mod Moments
pub mod WrittenImages
pub mod Reads
pub mod InvalidImages
pub mod Refusals
pub mod Loads
pub mod Integrity
pub mod Changes
pub mod Formatting
pub mod Names
pub mod Laws
-- modules that only private functions use
pub mod Journals
pub mod DurableWrites
pub mod Encoding
