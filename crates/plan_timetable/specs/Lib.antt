-- the definitions that public contracts use
pub mod Cells
pub mod Entries
pub mod Laws
pub mod Timetable
pub mod Words
-- the definitions that only contracts of private functions use
pub mod Timed
