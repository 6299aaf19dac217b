-- the definitions in public contracts
pub mod Faults
pub mod Laws
pub mod AssignedPlan
pub mod Assignments
