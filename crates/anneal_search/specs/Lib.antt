-- Definitions that public contracts use
pub mod Draws
pub mod Sorting
pub mod Orders
pub mod NearestRoutes
pub mod Strings
pub mod Annealing
pub mod AttemptState
pub mod AttemptLaws
pub mod AnnealLaws
pub mod StringLaws
-- Definitions that only private functions use
pub mod StepLoops
pub mod NearestStops
pub mod UnplannedNames
pub mod Absences
pub mod AttemptSteps
