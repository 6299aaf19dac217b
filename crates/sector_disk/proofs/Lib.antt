-- The lemma files. Those that are `pub` may be used in crates above.
mod Calls
mod Contents
pub mod HistorySteps
mod ConsistencySteps
mod LawProofs
mod Steps
