-- The count so far is the number of requests that are counted at the stops of the routes so far.
use Rattle.std.proofs.Common.{◌≡◌, take}
use Rattle.std.specs.List.{concat}
use Rattle.route_sched.specs.RequestCount.{count_among}
use Rattle.route_sched.proofs.cost.planned_count.Given as goal

abbrev pub invariant-loop-route : goal.invariant-loop-route
invariant-loop-route l = l.planned ≡ count_among l.problem (concat l.routes) (concat (take l.route-index l.routes))
