-- The best of the delivery's places before j is known, and the vehicle is before place j - 1. So if no later
-- place is better, it is the best of all.
use Rattle.std.proofs.Common.{◌<◌, ◌≤◌, length}
use Rattle.slack_tables.specs.declared.progress.PlaceSlack.{PlaceSlack}
use Rattle.slack_tables.proofs.ScanLemmas.{DeliveriesSoFar}
use Rattle.slack_tables.specs.Walk.{IsLoadedRide, IsNearLeg}
use Rattle.slack_tables.proofs.scan.best_delivery.Given as goal

abbrev pub invariant-loop-j : goal.invariant-loop-j
invariant-loop-j l = record {
  order : l.fn.i < l.j;
  within : l.j ≤ length l.places;
  best : (d : PlaceSlack) → DeliveriesSoFar l.trip.limits l.places l.trip.pickup l.trip.delivery l.i d l.fn.below l.j l.best;
  underway : (d : PlaceSlack) → IsLoadedRide l.trip.limits l.places l.trip.pickup l.trip.delivery l.i l.j d l.on;
  near : (d : PlaceSlack) → IsNearLeg l.places l.j d l.on;
}
