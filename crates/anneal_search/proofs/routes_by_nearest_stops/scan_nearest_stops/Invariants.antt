-- The list has the routes found so far along the nearest stops, at most `count` of them
use Rattle.std.proofs.Common.{◌≤◌, length}
use Rattle.move_ops.specs.Drafts.{draft_of}
use Rattle.anneal_search.specs.NearestStops.{HaveMet}
use Rattle.anneal_search.proofs.routes_by_nearest_stops.scan_nearest_stops.Given as goal

abbrev pub invariant-loop-index : goal.invariant-loop-index
invariant-loop-index l = record {
  met : HaveMet l.problem l.center (draft_of l.draft) l.nearest l.index l.nears.items;
  few : length l.nears.items ≤ l.count;
}
