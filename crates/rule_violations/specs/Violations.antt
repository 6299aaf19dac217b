-- Lists of all places of routes that break a rule. Routes and places count from 0 here, and from 1 in the
-- violations.
use Rattle.std.specs.Prelude.{ℕ, ◌+◌, ◌-◌, ◌-ℤ◌, ◌==◌, ◌&&◌, ◌||◌, not, nat_lt, Bool, false, is_none, is_some, List, [], ◌∷◌, ◌++◌, length, Option, None, Some, if◌then◌else◌, pos, unsigned_abs}
use Rattle.std.specs.List.{flat_map, range_with_len}
use Rattle.std.specs.Option.{option_and_then, option_map_or, option_to_list}
use Rattle.plan_types.specs.Instance.{Instance, partner_at, pickup_at, stop_at}
use Rattle.plan_types.specs.declared.requests.Request.{Request}
use Rattle.route_sched.specs.Cost.{has_stop, is_planned}
use Rattle.route_sched.specs.Schedule.{start}
use Rattle.route_sched.specs.VisitList.{visit_after}
use Rattle.route_sched.specs.declared.visits.Visit.{Visit}
use Rattle.plan_audit.specs.declared.rules.Rule.{Rule}
use Rattle.plan_audit.specs.declared.rules.Rule.TheVariants.{UnknownStop, VisitedTwice, MissingStop, SplitPair, EarlyDelivery, Load, Late, LateReturn, Fleet, Pin, PrintedCost}
use Rattle.rule_violations.specs.Limits.{is_late, is_overload}
use Rattle.rule_violations.specs.Positions.{first_position}
use Rattle.rule_violations.specs.declared.violations.Violation.{Violation}
use Rattle.rule_violations.specs.declared.positions.PrintedPosition.{PrintedPosition}

-- the violation at a position with stop n, if the condition holds
abbrev pub violation_if : Bool → PrintedPosition → ℕ → ℕ → Option Violation
violation_if holds position n by = if holds then Some (record { route = position.route; place = position.place; stop = n; by = by }) else None

-- place i of route k as a position, in which route and place count from 1
abbrev pub position_at : ℕ → ℕ → PrintedPosition
position_at k i = record { route = k + 1; place = i + 1 }

-- whether the stop at this position has another first position
abbrev pub is_repeated : PrintedPosition → Option PrintedPosition → Bool
is_repeated position first = option_map_or (λ s. not (s.route == position.route) || not (s.place == position.place)) first false

-- whether the other stop of the pair is in another route than this position
abbrev pub is_split : List (List ℕ) → PrintedPosition → Option ℕ → Bool
is_split routes position other = option_map_or (λ s. not (s.route == position.route)) (option_and_then (first_position routes) other) false

-- whether the pickup of the delivery at this position is later in the route
abbrev pub is_early_delivery : List (List ℕ) → PrintedPosition → Option ℕ → Bool
is_early_delivery routes position pickup = option_map_or (λ s. s.route == position.route && nat_lt position.place s.place) (option_and_then (first_position routes) pickup) false

-- the violation if the other stop of the pair is in no route
abbrev pub missing_violation : List (List ℕ) → PrintedPosition → Option ℕ → Option Violation
missing_violation routes position None = None
missing_violation routes position (Some m) = violation_if (not (has_stop routes m)) position m 0

-- the violation of one of the rules 1 to 5 by stop n at this position
abbrev pub stop_violation : Instance → List (List ℕ) → Rule → PrintedPosition → ℕ → Option Violation
stop_violation p routes UnknownStop position n = violation_if (is_none (stop_at p n)) position n 0
stop_violation p routes VisitedTwice position n = violation_if (is_repeated position (first_position routes n)) position n 0
stop_violation p routes MissingStop position n = missing_violation routes position (partner_at p n)
stop_violation p routes SplitPair position n = violation_if (is_split routes position (partner_at p n)) position n 0
stop_violation p routes EarlyDelivery position n = violation_if (is_early_delivery routes position (pickup_at p n)) position n 0
stop_violation p routes rule position n = None

-- the violation of rule 6 or 7 by stop n at this position, from its visit
abbrev pub visit_violation : Instance → Rule → PrintedPosition → ℕ → Visit → Option Violation
visit_violation p Load position n v = violation_if (is_overload p v.load) position n (unsigned_abs (v.load -ℤ pos p.capacity))
visit_violation p Late position n v = violation_if (is_late p v.start v.stop.latest) position n (v.start - v.stop.latest)
visit_violation p rule position n v = None

-- whether a vehicle that leaves returns too late
abbrev pub returns_late : Instance → List ℕ → Bool
returns_late p route = not (length route == 0) && is_late p (start p route (length route + 1)) p.depot.latest

-- the violation of rule 8 by route k
abbrev pub return_violation : Instance → ℕ → List ℕ → Option Violation
return_violation p k route = violation_if (returns_late p route) (position_at k (length route)) 0 (start p route (length route + 1) - p.depot.latest)

-- the violations of the items of a list, with items counted from k
abbrev pub violations_from : {X : Type 0} → (ℕ → X → List Violation) → ℕ → List X → List Violation
violations_from of_item k [] = []
violations_from of_item k (x ∷ xs) = of_item k x ++ violations_from of_item (k + 1) xs

-- the violations that a test finds at the places of route k
abbrev pub violations_at_places : (ℕ → List ℕ → ℕ → ℕ → Option Violation) → ℕ → List ℕ → List Violation
violations_at_places test k route = violations_from (λ i n. option_to_list (test k route i n)) 0 route

-- the violations that a test finds in all routes
abbrev pub violations_in_routes : (ℕ → List ℕ → ℕ → ℕ → Option Violation) → List (List ℕ) → List Violation
violations_in_routes test routes = violations_from (violations_at_places test) 0 routes

-- tests of stop n at place i of route k
abbrev pub stop_test : Instance → List (List ℕ) → Rule → ℕ → List ℕ → ℕ → ℕ → Option Violation
stop_test p routes rule k route i n = stop_violation p routes rule (position_at k i) n

abbrev pub visit_test : Instance → Rule → ℕ → List ℕ → ℕ → ℕ → Option Violation
visit_test p rule k route i n = visit_violation p rule (position_at k i) n (visit_after p route i)

abbrev pub return_violation_list : Instance → ℕ → List ℕ → List Violation
return_violation_list p k route = option_to_list (return_violation p k route)

abbrev pub stop_violations : Instance → List (List ℕ) → Rule → List Violation
stop_violations p routes rule = violations_in_routes (stop_test p routes rule) routes

abbrev pub visit_violations : Instance → List (List ℕ) → Rule → List Violation
visit_violations p routes rule = violations_in_routes (visit_test p rule) routes

abbrev pub return_violations : Instance → List (List ℕ) → List Violation
return_violations p routes = violations_from (return_violation_list p) 0 routes

-- the violation of a request with no stop in any route, reported by its name
abbrev pub unserved_violation : List (List ℕ) → ℕ × Request → Option Violation
unserved_violation routes e = if is_planned routes e.1 then None else Some (record { route = 0; place = 0; stop = e.0; by = 0 })

abbrev pub unserved_among : List (List ℕ) → List (ℕ × Request) → List Violation
unserved_among routes es = violations_from (λ _ e. option_to_list (unserved_violation routes e)) 0 es

abbrev pub unserved_violations : Instance → List (List ℕ) → List Violation
unserved_violations p routes = unserved_among routes p.requests

-- all violations of a rule, in order; fleet, pins and printed cost are not rules on places
abbrev pub violations_of : Instance → List (List ℕ) → Rule → List Violation
violations_of p routes UnknownStop = stop_violations p routes UnknownStop
violations_of p routes VisitedTwice = stop_violations p routes VisitedTwice
violations_of p routes MissingStop = unserved_violations p routes ++ stop_violations p routes MissingStop
violations_of p routes SplitPair = stop_violations p routes SplitPair
violations_of p routes EarlyDelivery = stop_violations p routes EarlyDelivery
violations_of p routes Load = visit_violations p routes Load
violations_of p routes Late = visit_violations p routes Late
violations_of p routes LateReturn = return_violations p routes
violations_of p routes Fleet = []
violations_of p routes Pin = []
violations_of p routes PrintedCost = []

-- whether the stop belongs to a request and is in no route
abbrev pub is_missing : Instance → List (List ℕ) → ℕ → Bool
is_missing p routes n = is_some (stop_at p n) && not (has_stop routes n)

abbrev pub missing_from : Instance → List (List ℕ) → ℕ → List ℕ
missing_from p routes n = if is_missing p routes n then n ∷ [] else []

-- the stops in no route, in ascending order of number
abbrev pub missing_stops : Instance → List (List ℕ) → List ℕ
missing_stops p routes = flat_map (missing_from p routes) (range_with_len 0 p.next_number)
