-- the definitions in public contracts
pub mod Violations
pub mod Laws
pub mod Limits
pub mod Positions
pub mod KnownSchedule
