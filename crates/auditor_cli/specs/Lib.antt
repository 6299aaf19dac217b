-- Modules that public contracts use.
pub mod Answer
pub mod AnswerText
pub mod Program
pub mod BadLines
pub mod BestKnown
pub mod IgnoredLines
pub mod Columns
pub mod Compare
pub mod Examination
pub mod Explain
pub mod Files
pub mod Gaps
pub mod Audits
pub mod Partial
pub mod Reads
pub mod Messages
pub use Rattle.command_line.specs.Invocations
-- Modules that only private functions use.
pub mod FileOutcome
