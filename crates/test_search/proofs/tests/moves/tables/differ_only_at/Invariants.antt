-- Each vehicle so far that is not in `vehicles` has the same route in both plans.
use Rattle.std.proofs.Common.{◌≡◌, ◌<◌, ℕ, false}
use Rattle.plan_audit.specs.Passes.{has}
use Rattle.move_ops.specs.Insertion.{route_of}
use Rattle.test_search.proofs.tests.moves.tables.differ_only_at.Given as goal

abbrev pub invariant-loop-vehicle : goal.invariant-loop-vehicle
invariant-loop-vehicle l = (v : ℕ) → v < l.vehicle → has l.vehicles v ≡ false → route_of l.old v ≡ route_of l.new v
