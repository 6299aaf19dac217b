-- The text so far, followed by that of the remaining nonempty routes, is the text of all nonempty routes. Their
-- numbers grow by at most one per route.
use Rattle.std.proofs.Common.{◌≡◌, ◌≤◌, ◌+◌, ◌++◌, drop}
use Rattle.route_sched.specs.Cost.{used_routes}
use Rattle.sol_text.specs.Written.{routes_text}
use Rattle.sol_text.proofs.write.write_routes.Given as goal

abbrev pub invariant-loop-route : goal.invariant-loop-route
invariant-loop-route l = record {
  few : l.number ≤ l.route-index + 1;
  all : l.text.items ++ routes_text l.number (used_routes (drop l.route-index l.routes)) ≡ routes_text 1 (used_routes l.routes);
}
