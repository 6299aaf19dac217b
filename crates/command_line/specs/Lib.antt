-- Definitions in public contracts.
pub mod Invocations
-- Definitions in the contracts of private functions.
pub mod CommandLine
