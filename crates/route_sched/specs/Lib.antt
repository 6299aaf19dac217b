-- the definitions in public contracts
pub mod Agreement
pub mod Cost
pub mod Limits
pub mod Route
pub mod Schedule
pub mod VisitList
pub mod VisitsValue
-- the definitions in private contracts
pub mod Chain
pub mod RequestCount
pub mod VisitsState
