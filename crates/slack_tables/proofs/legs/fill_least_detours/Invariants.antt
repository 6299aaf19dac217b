-- From place k on, each number is a lower bound on all detours from its place on. So once k is `first`, this
-- holds for all places to fill.
use Rattle.std.proofs.Common.{◌≤◌, ◌^◌, get_or}
use Rattle.nint_dist.specs.Distance.{distance}
use Rattle.slack_tables.specs.declared.progress.PlaceSlack.{PlaceSlack}
use Rattle.slack_tables.proofs.LegLemmas.{AreLeastFrom}
use Rattle.slack_tables.proofs.legs.fill_least_detours.Given as goal

abbrev pub invariant-loop-k : goal.invariant-loop-k
invariant-loop-k l = record {
  following : l.first ≤ l.k;
  least : AreLeastFrom l.places l.stop l.k l.least;
  from : (d : PlaceSlack) → l.from ≤ distance (get_or l.places l.k d).at.stop l.stop;
  bound : l.from ≤ 2 ^ 33;
}
