-- The auditor's search for the first place that breaks a rule. Routes and places count from 0 here, as in the
-- code.
use Rattle.std.specs.Prelude.{
  ◌≡◌,
  ℕ,
  ◌+◌,
  ◌-◌,
  ◌^◌,
  ◌<◌,
  nat_lt,
  IfSome,
  ◌==◌,
  ◌&&◌,
  ◌||◌,
  not,
  List,
  [],
  ◌∷◌,
  Option,
  Some,
  None,
  is_some,
  if◌then◌else◌,
  Bool,
  length,
  false,
  slice_get,
  unwrap_or,
}
use Rattle.route_sched.specs.Limits.{is_too_late, exceeds_capacity}
use Rattle.route_sched.specs.Schedule.{start}
use Rattle.route_sched.specs.VisitList.{visit_after, visits_from}
use Rattle.route_sched.specs.declared.visits.Visit.{Visit}
use Rattle.std.specs.Option.{option_map, option_or, option_and_then}
use Rattle.std.specs.List.{AllByRecursion}
use Rattle.plan_types.specs.Instance.{Instance, stop_at, partner_at, pickup_at}
use Rattle.plan_types.specs.declared.requests.Request.{Request}
use Rattle.plan_types.specs.declared.requests.Kind.{Kind}
use Rattle.plan_types.specs.declared.requests.Kind.TheVariants.{LiLim, Vrp}
use Rattle.route_sched.specs.Cost.{is_planned}
use Rattle.plan_audit.specs.Verdict.{Subject, planned, printed}
use Rattle.plan_audit.specs.declared.faults.PlaceFault.{PlaceFault}
use Rattle.plan_audit.specs.declared.faults.Fault.{Fault}
use Rattle.plan_audit.specs.declared.first_positions.StopPosition.{StopPosition}

-- the first answer of a test of places, with places counted from k
abbrev pub first_place_fault : (ℕ → ℕ → Option ℕ) → ℕ → List ℕ → Option PlaceFault
first_place_fault test k [] = None
first_place_fault test k (n ∷ ns) = option_or (option_map (λ s. record { place = k; stop = s }) (test k n)) (first_place_fault test (k + 1) ns)

-- the first answer of a test of routes, with routes counted from k
abbrev pub first_fault : (ℕ → List ℕ → Option PlaceFault) → ℕ → List (List ℕ) → Option Fault
first_fault test k [] = None
first_fault test k (r ∷ rs) = option_or (option_map (λ t. record { route = k; place = t.place; stop = t.stop }) (test k r)) (first_fault test (k + 1) rs)

-- the result is the first answer of the test; its route and its place, each plus 1, fit a `u64`
pub record FindsFirstFault (test : ℕ → List ℕ → Option PlaceFault) (routes : List (List ℕ)) (o : Option Fault) : Type 0 where
  pub reported : o ≡ first_fault test 0 routes
  pub route : IfSome o (λ f. f.route + 1 < 2 ^ 64)
  pub place : IfSome o (λ f. f.place + 1 < 2 ^ 64)

-- the first answer of a test of places on route r
abbrev pub place_fault_by : (ℕ → List ℕ → ℕ → ℕ → Option ℕ) → ℕ → List ℕ → Option PlaceFault
place_fault_by test r route = first_place_fault (test r route) 0 route

-- the first place of stop n, counted from k
abbrev pub place_of : ℕ → ℕ → List ℕ → Option ℕ
place_of n k [] = None
place_of n k (m ∷ ms) = if m == n then Some k else place_of n (k + 1) ms

abbrev pub position_in : ℕ → ℕ → List ℕ → Option StopPosition
position_in n k route = option_map (λ i. record { route = k; place = i }) (place_of n 0 route)

abbrev pub position_from : ℕ → ℕ → List (List ℕ) → Option StopPosition
position_from n k [] = None
position_from n k (r ∷ rs) = option_or (position_in n k r) (position_from n (k + 1) rs)

-- the first position of stop n in the routes
abbrev pub position_of : List (List ℕ) → ℕ → Option StopPosition
position_of routes n = position_from n 0 routes

module _ (p : Instance) (routes : List (List ℕ)) where
  -- for each of the rules 1 to 5: the stop to report if stop n breaks the rule at this position
  abbrev pub unknown_at : ℕ → Option ℕ
  unknown_at n = if is_some (stop_at p n) then None else Some n

  abbrev pub repeated_at : ℕ → ℕ → ℕ → Option ℕ
  repeated_at r i n = option_and_then (λ s. if (s.route == r) && (s.place == i) then None else Some n) (position_of routes n)

  abbrev pub missing_at : ℕ → Option ℕ
  missing_at n = option_and_then (λ m. if is_some (position_of routes m) then None else Some m) (partner_at p n)

  abbrev pub split_at : ℕ → ℕ → Option ℕ
  split_at r n = option_and_then (λ m. option_and_then (λ s. if s.route == r then None else Some n) (position_of routes m)) (partner_at p n)

  abbrev pub early_delivery_at : ℕ → ℕ → Option ℕ
  early_delivery_at i n = option_and_then (λ m. option_and_then (λ s. if nat_lt i s.place then Some n else None) (position_of routes m)) (pickup_at p n)

-- stop n at place i, if its visit fails the test
abbrev pub visit_fault : Instance → (Visit → Bool) → List ℕ → ℕ → ℕ → Option ℕ
visit_fault p fails route i n = if fails (visit_after p route i) then Some n else None

-- whether the load after a visit is above the capacity
abbrev pub is_overloaded : Instance → Visit → Bool
is_overloaded p v = exceeds_capacity v.load p.capacity

-- whether service starts after the latest time
abbrev pub is_late : Visit → Bool
is_late v = is_too_late v.start v.stop.latest

-- whether service starts too late in a problem with time windows
abbrev pub breaks_window : Kind → Visit → Bool
breaks_window LiLim v = is_late v
breaks_window Vrp v = false

-- whether a visit breaks a rule on loads or times; the return is checked like a stop
abbrev pub breaks_limits : Instance → Visit → Bool
breaks_limits p v = is_overloaded p v || breaks_window p.kind v

-- if the route has stops, none of its visits breaks a rule on loads or times
unfoldable pub KeepsLimits : Instance → List ℕ → Type 0
KeepsLimits p route = 0 < length route → AllByRecursion (λ v. breaks_limits p v ≡ false) (visits_from p route 0)

-- the name of a request if it is not planned
abbrev pub unserved_in : List (List ℕ) → ℕ × Request → Option ℕ
unserved_in routes e = if is_planned routes e.1 then None else Some e.0

-- the name of the first request that is not planned
abbrev pub first_unserved : List (List ℕ) → List (ℕ × Request) → Option ℕ
first_unserved routes [] = None
first_unserved routes (e ∷ es) = option_or (unserved_in routes e) (first_unserved routes es)

-- the name of the first request that must be served and is not; a plan may leave requests out
abbrev pub unserved_of : Instance → Subject → Option ℕ
unserved_of p (planned routes pins) = None
unserved_of p (printed routes cost) = first_unserved routes p.requests

-- whether the optional stop is stop n
abbrev pub is_found : ℕ → Option ℕ → Bool
is_found n None = false
is_found n (Some m) = m == n

-- stop n at place i of a pin, if the route does not have stop n at place i
abbrev pub pin_mismatch_at : List ℕ → ℕ → ℕ → Option ℕ
pin_mismatch_at route i n = if is_found n (slice_get route i) then None else Some n

-- the first place at which a route differs from its pin
abbrev pub first_pin_mismatch : List (List ℕ) → List (List ℕ) → Option Fault
first_pin_mismatch routes pins = first_fault (place_fault_by (λ r _ i n. pin_mismatch_at (unwrap_or (slice_get routes r) []) i n)) 0 pins

-- the place of the return if a vehicle leaves the depot and returns too late
abbrev pub late_return_fault : Instance → List ℕ → Option PlaceFault
late_return_fault p route =
    if (length route == 0) || not (is_too_late (start p route (length route + 1)) p.depot.latest) then None else Some (record { place = length route; stop = 0 })

-- the first nonempty route for which none of `left` vehicles remains, with routes counted from k
abbrev pub first_route_beyond : ℕ → ℕ → List (List ℕ) → Option ℕ
first_route_beyond left k [] = None
first_route_beyond left k (r ∷ rs) = if length r == 0 then first_route_beyond left (k + 1) rs else if left == 0 then Some k else first_route_beyond (left - 1) (k + 1) rs
