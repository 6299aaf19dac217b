-- Definitions that public contracts use
pub mod AddedRequests
pub mod Commands
pub mod Job
pub mod Names
pub mod States
-- Definitions that only private functions use
pub mod Fields
