-- the definitions that public contracts use
pub mod Laws
pub mod LinePrefixes
pub mod LimitViolations
pub mod Trials
pub mod Why
pub mod Words
-- the definitions that only contracts of private functions use
pub mod LatestArrivals
pub mod MovedRows
pub mod Insertions
pub mod TrialConditions
