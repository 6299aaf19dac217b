-- A request tried at each place of a route, even if that exceeds limits, and the best of these trials.
use Rattle.std.specs.Prelude.{ℕ, nat_lt, ◌&&◌, ◌||◌, not, Bool, if◌then◌else◌, List, [], ◌∷◌, map, length, Option, Some, None}
use Rattle.plan_types.specs.Instance.{Instance}
use Rattle.plan_types.specs.declared.requests.Request.{Request}
use Rattle.route_sched.specs.Route.{AreDistinctStops}
use Rattle.route_sched.specs.Schedule.{route_length}
use Rattle.move_ops.specs.Insertion.{inserted, places_in}
use Rattle.request_explanation.specs.LimitViolations.{violation_of, violates_less}
use Rattle.request_explanation.specs.declared.trials.Trial.{Trial}

-- the trial of a route in which the request has these places
abbrev pub trial_of : Instance → List ℕ → ℕ → ℕ → Trial
trial_of p route i j = record { violation = violation_of p route; distance = route_length p route; pickup = i; delivery = j }

-- the trial of the route with the request inserted at these places
abbrev pub trial_at : Instance → List ℕ → Request → ℕ × ℕ → Trial
trial_at p route r x = trial_of p (inserted r x.0 x.1 route) x.0 x.1

-- the trials at each place after the first `kept` stops, by the pickup's place and then the delivery's
abbrev pub trials : Instance → List ℕ → Request → ℕ → List Trial
trials p route r kept = map (trial_at p route r) (places_in r kept (length route))

-- one trial is better than another: it violates less, or no more with a shorter distance
abbrev pub is_better : Trial → Trial → Bool
is_better t u = violates_less t.violation u.violation || (not (violates_less u.violation t.violation) && nat_lt t.distance u.distance)

-- the best trial so far, or the next one if that is better
abbrev pub better : Option Trial → Trial → Option Trial
better None t = Some t
better (Some best) t = if is_better t best then Some t else Some best

-- the best trial so far, or the next one if it is known and better
abbrev pub best_with : Option Trial → Option Trial → Option Trial
best_with best None = best
best_with best (Some t) = better best t

abbrev pub best_from : Option Trial → List Trial → Option Trial
best_from best [] = best
best_from best (t ∷ ts) = best_from (better best t) ts

-- the best of the trials: the first one that violates least and, among those, has the shortest distance
abbrev pub best_trial : Instance → List ℕ → Request → ℕ → Option Trial
best_trial p route r kept = best_from None (trials p route r kept)

-- the request may be tried in the route: its stops are known, and none of them is in the route
pub record MayTake (p : Instance) (r : Request) (route : List ℕ) : Type 0 where
  pub once : (i j : ℕ) → AreDistinctStops p (inserted r i j route)
