-- Counting on from the vehicles so far leads to the count for all vehicles.
use Rattle.std.proofs.Common.{◌≡◌, ◌≤◌, drop}
use Rattle.planner_cli.specs.Draw.{used_vehicle_count_after}
use Rattle.planner_cli.proofs.draw.used_vehicle_count.Given as goal

abbrev pub invariant-loop-index : goal.invariant-loop-index
invariant-loop-index l = (used_vehicle_count_after l.count l.index (drop l.index l.routes) ≡ used_vehicle_count_after 0 0 l.routes) × (l.count ≤ l.index)
