-- With the pickup on board the vehicle is where the trip to place k leads, so the delivery can follow place k.
use Rattle.std.proofs.Common.{◌≡◌, ◌+◌, ◌*◌, ◌^◌, Some}
use Rattle.plan_types.specs.Limits.{IsVisit}
use Rattle.slack_tables.specs.Ride.{ride_at, IsSmallRide}
use Rattle.slack_tables.specs.Walk.{walk_to}
use Rattle.slack_tables.specs.declared.progress.PlaceSlack.{PlaceSlack}
use Rattle.slack_tables.proofs.insertion.added_by_pair.Given as goal

abbrev pub invariant-loop-k : goal.invariant-loop-k
invariant-loop-k l = record {
  walk : (d : PlaceSlack) → walk_to l.limits l.places l.pickup l.i d (l.k + 1) ≡ Some (ride_at l.ride l.stop);
  visit : IsVisit l.stop;
  near : IsSmallRide (2 ^ 51 + l.k * 2 ^ 34) l.ride;
}
