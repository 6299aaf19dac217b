-- A route with an inserted request, the limits of a route, and the distance that an insertion adds.
use Rattle.std.specs.Prelude.{◌≡◌, ℕ, ◌+◌, ◌-◌, ◌<◌, ◌≤◌, ℤ, pos, ◌+ℤ◌, ◌≤ℤ◌, nat_eq, List, length, Option, MatchOption}
use Rattle.std.specs.List.{insert}
use Rattle.std.specs.Map.{lookup}
use Rattle.plan_types.specs.Instance.{Instance}
use Rattle.plan_types.specs.declared.requests.Request.{Request}
use Rattle.plan_types.specs.declared.requests.Request.TheVariants.{Single, Pair}
use Rattle.plan_types.specs.declared.requests.Kind.TheVariants.{LiLim}
use Rattle.route_sched.specs.Route.{place}
use Rattle.route_sched.specs.Schedule.{start, load, route_length}

-- the current request with this name
abbrev pub request_named : Instance → ℕ → Option Request
request_named p name = lookup (nat_eq name) p.requests

-- the route with the request inserted: the pickup is at place i of the new route and the delivery at place j,
-- or a single at place i; places count from 1
abbrev pub inserted : Request → ℕ → ℕ → List ℕ → List ℕ
inserted (Single s) i j route = insert route (i - 1) s.number
inserted (Pair p d) i j route = insert (insert route (i - 1) p.number) (j - 1) d.number

-- i and j are places for the request in the new route, if the old one has n stops: the pickup before the
-- delivery, or one place for a single
abbrev pub ArePlaces : Request → ℕ → ℕ → ℕ → Type 0
ArePlaces (Single s) n i j = (1 ≤ i) × (i ≤ n + 1) × (j ≡ i)
ArePlaces (Pair p d) n i j = (1 ≤ i) × (i < j) × (j ≤ n + 2)

-- the load after each stop is at most the capacity; with time windows, each service starts by the stop's latest
-- time, and the vehicle returns by the depot's latest time
pub record KeepsLimits (p : Instance) (route : List ℕ) : Type 0 where
  pub load : (i : ℕ) → 1 ≤ i → i ≤ length route → load p route i ≤ℤ pos p.capacity
  pub window : p.kind ≡ LiLim → (i : ℕ) → 1 ≤ i → i ≤ length route → start p route i ≤ (place p route i).latest
  pub return : p.kind ≡ LiLim → start p route (length route + 1) ≤ p.depot.latest

-- the distance by which the new route is longer than the old one, or `None` if the new route exceeds a limit
abbrev pub IsAdded : Instance → List ℕ → List ℕ → Option ℤ → Type 0
IsAdded p old new answer =
    MatchOption answer (¬ KeepsLimits p new) (λ added. KeepsLimits p new × (pos (route_length p new) ≡ pos (route_length p old) +ℤ added))
