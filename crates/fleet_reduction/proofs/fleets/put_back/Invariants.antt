-- The routes so far and those of the remaining vehicles are all routes. At most one list was put back for each
-- vehicle so far.
use Rattle.std.proofs.Common.{◌≡◌, ◌≤◌, ◌++◌, drop}
use Rattle.fleet_reduction.specs.Fleets.{put_back}
use Rattle.fleet_reduction.proofs.fleets.put_back.Given as goal

abbrev pub invariant-loop-index : goal.invariant-loop-index
invariant-loop-index l = record {
  all : l.routes ++ put_back (drop l.index l.kept) (drop l.next l.lists) ≡ put_back l.kept l.lists;
  few : l.next ≤ l.index;
}
