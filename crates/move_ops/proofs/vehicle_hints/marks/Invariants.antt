-- A number is marked, or is a stop of the remaining routes, exactly when it is a stop of some route. So at the
-- end exactly the stops of the routes are marked.
use Rattle.std.proofs.Common.{◌≡◌, ℕ, ◌<◌, ◌||◌, false, drop, get_or, length}
use Rattle.route_sched.specs.Cost.{has_stop}
use Rattle.move_ops.proofs.vehicle_hints.marks.Given as goal

abbrev pub invariant-loop-route : goal.invariant-loop-route
invariant-loop-route l = record {
  len : length l.marks.items ≡ l.len;
  marked : (n : ℕ) → n < length l.marks.items → (get_or l.marks.items n false || has_stop (drop l.route-index l.routes) n) ≡ has_stop l.routes n;
}
