-- The best insertion with the pickup before place i is known. So at the end, or if all later places are too
-- late, it is the best of all.
use Rattle.std.proofs.Common.{◌^◌, ◌-◌, ◌≤◌, get_or}
use Rattle.nint_dist.specs.Distance.{distance}
use Rattle.slack_tables.specs.declared.progress.PlaceSlack.{PlaceSlack}
use Rattle.slack_tables.proofs.ScanLemmas.{PairsSoFar}
use Rattle.slack_tables.proofs.scan.best_from.Given as goal

abbrev pub invariant-loop-i : goal.invariant-loop-i
invariant-loop-i l = record {
  following : l.first ≤ l.i;
  to : (d : PlaceSlack) → l.to ≤ distance (get_or l.places (l.i - 1) d).at.stop l.trip.pickup;
  bound : l.to ≤ 2 ^ 33;
  best : (d : PlaceSlack) → PairsSoFar l.trip.limits l.places l.trip.pickup l.trip.delivery (l.first - 1) d l.fn.below l.i l.best;
}
