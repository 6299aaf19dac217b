-- Definitions that public contracts use
pub mod Creation
pub mod Opening
pub mod FileRecord
pub mod FileCalls
pub mod Transfers
pub mod FileDevice
pub mod DeviceFiles
pub mod Laws
-- Definitions that only private functions and proofs use
pub mod FileLaws
