-- The best of the places before i is known, and so is a lower bound on the distance from the last of these
-- places to the single. So at the end the best of all places is known.
use Rattle.std.proofs.Common.{◌^◌, ◌-◌, ◌<◌, ◌≤◌, get_or}
use Rattle.nint_dist.specs.Distance.{distance}
use Rattle.slack_tables.specs.declared.progress.PlaceSlack.{PlaceSlack}
use Rattle.slack_tables.proofs.ScanLemmas.{SinglesSoFar}
use Rattle.slack_tables.proofs.scan.best_single.Given as goal

abbrev pub invariant-loop-i : goal.invariant-loop-i
invariant-loop-i l = record {
  following : l.kept < l.i;
  to : (d : PlaceSlack) → l.to ≤ distance (get_or l.places (l.i - 1) d).at.stop l.stop;
  bound : l.to ≤ 2 ^ 33;
  best : (d : PlaceSlack) → SinglesSoFar l.limits l.places l.stop l.kept d l.fn.below l.i l.best;
}
