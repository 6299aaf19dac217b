-- The numbers so far are those of vehicles.
use Rattle.std.proofs.Common.{◌≤◌, ◌<◌, ℕ, slice_index_or}
use Rattle.test_search.proofs.tests.moves.tables.are_vehicles.Given as goal

abbrev pub invariant-loop-vehicle : goal.invariant-loop-vehicle
invariant-loop-vehicle l = (k d : ℕ) → k < l.vehicle-index → (1 ≤ slice_index_or l.vehicles k d) × (slice_index_or l.vehicles k d ≤ l.problem.fleet)
