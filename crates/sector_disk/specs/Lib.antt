-- modules that public contracts use
pub mod Image
pub mod Sectors
pub mod Throughout
pub mod Calls
pub mod Model
pub mod History
pub mod Memory
pub mod MemDevice
pub mod Laws
-- modules that only private functions and proofs use
pub mod Consistency
pub mod Crash
pub mod CommitLaws
pub mod HistoryLaws
pub mod ImageLaws
pub mod MemoryLaws
pub mod ModelLaws
