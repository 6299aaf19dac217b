-- Definitions that public contracts use
pub mod SystemCalls
pub mod Retries
pub mod FolderSync
