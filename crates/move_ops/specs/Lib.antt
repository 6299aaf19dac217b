-- definitions that public contracts use
pub mod BoundedPlacement
pub mod Drafts
pub mod MoveCosts
pub mod Insertion
pub mod Laws
pub mod Moves
pub mod Savings
pub mod Tables
-- definitions that only private contracts use
pub mod Changes
pub mod InsertionSearch
pub mod DraftInvariant
pub mod UndoLog
pub mod WholePairs
pub mod FreshTables
pub mod MaxDemands
pub mod Legs
