-- The vehicle has reached place k within its limits, the places so far are set, and the cursor is right. So
-- once the vehicle has returned, the route keeps its limits.
use Rattle.std.proofs.Common.{◌≡◌, ◌+◌, length}
use Rattle.route_sched.specs.Route.{place}
use Rattle.slack_tables.specs.SharedPrefix.{HasReached}
use Rattle.slack_tables.specs.ForwardPass.{AreForwardRowsTo}
use Rattle.slack_tables.specs.Ride.{ride_at}
use Rattle.slack_tables.specs.TableCursor.{IsCursorFor}
use Rattle.slack_tables.proofs.table.drive_route.Given as goal

abbrev pub invariant-loop-k : goal.invariant-loop-k
invariant-loop-k l = record {
  long : length l.places ≡ length l.fn.places;
  opened : AreForwardRowsTo (place l.problem l.route) (l.k + 1) l.places;
  come : HasReached l.problem l.route l.k (ride_at l.ride l.from);
  cursor : IsCursorFor l.known l.from l.cursor;
}
