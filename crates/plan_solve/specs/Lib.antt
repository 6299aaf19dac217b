-- Definitions in public contracts.
pub mod AuditLaw
pub mod Solved
-- Definitions in the contracts of private functions.
pub mod ProgressState
