-- None of the places so far, after the kept stops, can take the pickup. The lower bound on the distance from
-- the last of these places to the pickup serves to check the next place.
use Rattle.std.proofs.Common.{◌^◌, ◌-◌, ◌<◌, ◌≤◌, get_or}
use Rattle.nint_dist.specs.Distance.{distance}
use Rattle.slack_tables.specs.ClosedPlaces.{AreClosed}
use Rattle.slack_tables.specs.declared.progress.PlaceSlack.{PlaceSlack}
use Rattle.slack_tables.proofs.closed.first_open.Given as goal

abbrev pub invariant-loop-i : goal.invariant-loop-i
invariant-loop-i l = record {
  following : l.kept < l.i;
  to : (d : PlaceSlack) → l.to ≤ distance (get_or l.places (l.i - 1) d).at.stop l.pickup;
  bound : l.to ≤ 2 ^ 33;
  closed : AreClosed l.limits l.places l.pickup l.kept l.i;
}
