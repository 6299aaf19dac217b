-- The meaning of the definitions of strings and orders
use Rattle.std.specs.Prelude.{◌≡◌, ℕ, ◌+◌, ◌<◌, ◌≤◌, ◌^◌, ⊤, Bool, false, List, [], ◌∷◌, length, map, nat_lt, slice_index, All, IfSome, MatchOption, filter}
use Rattle.std.specs.List.{range_with_len}
use Rattle.std.specs.List.Sorted.{IsPermutation}
use Rattle.std.specs.Option.{option_to_list}
use Rattle.plan_types.specs.Instance.{Instance}
use Rattle.plan_types.specs.declared.requests.Stop.{Stop}
use Rattle.move_ops.specs.Insertion.{route_of}
use Rattle.anneal_search.specs.Sorting.{sorted}
use Rattle.anneal_search.specs.NearestRoutes.{near, is_nearer, nearest, nearest_of}
use Rattle.anneal_search.specs.declared.routes.NearStop.{NearStop}
use Rattle.anneal_search.specs.Orders.{rank, is_before, ordered}
use Rattle.anneal_search.specs.Strings.{cut_of}
use Rattle.anneal_search.specs.declared.strings.Cut.{Cut}

-- The string contains the stop at place q, lies in the route of n stops, and removes at most `most` stops. A stop
-- that stays is neither the first nor the last of the string.
pub record LiesAround (most n q : ℕ) (cut : Cut) : Type 0 where
  pub from : cut.first ≤ q
  pub to : q < cut.end
  pub within : cut.end ≤ n
  pub few : cut.end ≤ cut.first + most + length (option_to_list cut.kept)
  pub kept : IfSome cut.kept (λ kept. (cut.first < kept) × (kept + 1 < cut.end))

-- Law: every drawn string lies around its stop as `LiesAround` says
abbrev pub StringsLieAround : Type 0
StringsLieAround = (most w n q : ℕ) → w < 2 ^ 32 → 1 ≤ most → q < n → LiesAround most n q (cut_of most w n q)

-- No item belongs before one that precedes it
abbrev pub IsInOrder : {X : Type 0} → (X → X → Bool) → List X → Type 0
IsInOrder before [] = ⊤
IsInOrder before (x ∷ xs) = All (λ y. before y x ≡ false) xs × IsInOrder before xs

-- x is one of the stops of a vehicle's route, and none of them is nearer
pub record IsNearestOf (p : Instance) (center : Stop) (vehicle : ℕ) (route : List ℕ) (x : NearStop) : Type 0 where
  pub within : x.place < length route
  pub one : x ≡ near p center vehicle x.place (slice_index route x.place)
  pub least : (k : ℕ) → k < length route → is_nearer (near p center vehicle k (slice_index route k)) x ≡ false

-- Law: the stop that is found is the nearest of its route, and one is found if the route has stops
abbrev pub NearestStopIsClosest : Type 0
NearestStopIsClosest = (p : Instance) (center : Stop) (routes : List (List ℕ)) (vehicle : ℕ)
    → MatchOption (nearest p center routes vehicle) (length (route_of routes vehicle) ≡ 0) (IsNearestOf p center vehicle (route_of routes vehicle))

-- The vehicles whose routes have stops, in ascending order
abbrev pub used_vehicles : List (List ℕ) → List ℕ
used_vehicles routes = filter (λ v. nat_lt 0 (length (route_of routes v))) (range_with_len 1 (length routes))

-- The nearest stop of each used vehicle, and the same stops in ascending order of distance and number
pub record AreNearest (p : Instance) (center : Stop) (routes : List (List ℕ)) (all nears : List NearStop) : Type 0 where
  pub each : map (λ x. x.vehicle) all ≡ used_vehicles routes
  pub nearest : All (λ x. IsNearestOf p center x.vehicle (route_of routes x.vehicle) x) all
  pub same : IsPermutation all nears
  pub ascending : IsInOrder is_nearer nears

-- Law: `AreNearest` holds for the nearest stops of all used vehicles, of which a step cuts the first routes
abbrev pub RoutesAreAscending : Type 0
RoutesAreAscending = (p : Instance) (center : Stop) (routes : List (List ℕ)) →
    let all = nearest_of p center routes 1 (length routes) in AreNearest p center routes all (sorted is_nearer all)

-- A permutation of the names, in ascending order of key, salt and name
pub record AreOrdered (p : Instance) (w : ℕ) (names order : List ℕ) : Type 0 where
  pub same : IsPermutation names order
  pub ascending : IsInOrder is_before (map (rank p w) order)

-- Law: `AreOrdered` holds for every order that a word picks
abbrev pub OrdersAreAscending : Type 0
OrdersAreAscending = (p : Instance) (w : ℕ) (names : List ℕ) → AreOrdered p w names (ordered p w names)
