-- Properties of a current request that private functions use.
use Rattle.std.specs.Prelude.{◌≡◌, ℕ, false, List, All}
use Rattle.plan_types.specs.Instance.{Instance}
use Rattle.plan_types.specs.declared.requests.Request.{Request}
use Rattle.route_sched.specs.Cost.{is_planned}
use Rattle.route_sched.specs.Route.{AreDistinctStops}
use Rattle.request_explanation.specs.Trials.{MayTake}
use Rattle.request_explanation.specs.Why.{alone_route}

-- the stops of the request are known and distinct, and the request may be tried in routes that have none of
-- them
pub record CanBeTried (p : Instance) (r : Request) : Type 0 where
  pub alone : AreDistinctStops p (alone_route r)
  pub among : (routes : List (List ℕ)) → All (AreDistinctStops p) routes → is_planned routes r ≡ false → All (MayTake p r) routes
