-- None of the places so far, after the kept stops, can take the pickup. So all places up to the first with a
-- late enough start, or up to the end, may be skipped.
use Rattle.std.proofs.Common.{◌<◌}
use Rattle.slack_tables.specs.ClosedPlaces.{AreClosed}
use Rattle.slack_tables.proofs.closed.first_by_deadline.Given as goal

abbrev pub invariant-loop-i : goal.invariant-loop-i
invariant-loop-i l = record {
  following : l.kept < l.i;
  closed : AreClosed l.limits l.places l.pickup l.kept l.i;
}
