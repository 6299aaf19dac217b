-- The lemma files of this crate.
mod FileHistorySteps
mod FileLawProofs
mod CreationSteps
mod Openings
mod TransferSteps
