-- Definitions in public contracts.
pub mod Acts
pub mod ServeContract
pub mod CrashRecovery
pub mod AnswerOrder
pub mod Causes
pub mod Ending
pub mod Streams
pub mod TrackedStream
pub mod Strict
pub mod StrictValue
-- Definitions in the contracts of private functions.
pub mod Input
pub mod KnownInput
pub mod ServeSteps
