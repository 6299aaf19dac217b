-- the definitions in public contracts
pub mod Best
pub mod Course
pub mod FitsNowhere
pub mod Insertion
pub mod Latest
pub mod RequestFloors
-- the definitions in private contracts
pub mod Along
pub mod ClosedPlaces
pub mod DriveSteps
pub mod BackwardPass
pub mod SharedPrefix
pub mod TableFields
pub mod Legs
pub mod ForwardPass
pub mod Places
pub mod Ride
pub mod Scan
pub mod TableCursor
pub mod Span
pub mod Walk
