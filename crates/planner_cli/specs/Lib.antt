-- Modules that public contracts use.
pub mod OkLaws
pub mod Adopt
pub mod ErrorCapture
pub mod Check
pub mod Draw
pub mod Format
pub mod StoreDevices
pub mod Load
pub mod ReadOnly
pub mod Opening
pub mod Program
pub mod RunRecovery
pub mod Run
pub mod Solves
pub mod Solve
pub mod Statuses
pub mod StrictRun
pub mod Messages
pub mod Timetable
pub mod Upgrade
pub mod PrintInstance
pub use Rattle.command_line.specs.Invocations
pub use Rattle.command_server.specs.ServeContract
pub use Rattle.command_server.specs.Streams
-- Modules that only private functions use.
pub mod WarnedOpening
pub mod ReplayNotice
