-- Tests that compute whether a plan passes and whether a route is feasible alone, rule by rule. They are slow;
-- laws relate them to the verdict.
use Rattle.std.specs.Prelude.{ℕ, ◌+◌, nat_eq, nat_le, ◌==◌, ◌&&◌, ◌||◌, not, Bool, true, false, List, [], ◌∷◌, length, is_some}
use Rattle.std.specs.List.{list_any, list_all, concat, starts_with, range_with_len}
use Rattle.std.specs.Option.{option_map_or}
use Rattle.plan_types.specs.Instance.{Instance, stop_at, partner_at, pickup_at}
use Rattle.plan_types.specs.declared.requests.Kind.{Kind}
use Rattle.plan_types.specs.declared.requests.Kind.TheVariants.{LiLim, Vrp}
use Rattle.route_sched.specs.Limits.{exceeds_capacity}
use Rattle.route_sched.specs.Route.{place}
use Rattle.route_sched.specs.Schedule.{start, load}

-- whether number n is in the list
abbrev pub has : List ℕ → ℕ → Bool
has ns n = list_any (nat_eq n) ns

-- whether no number occurs twice
abbrev pub are_distinct : List ℕ → Bool
are_distinct [] = true
are_distinct (n ∷ ns) = not (has ns n) && are_distinct ns

-- whether all are stops of current requests (rule 1), each once (rule 2)
abbrev pub are_distinct_stops : Instance → List ℕ → Bool
are_distinct_stops p ns = list_all (λ n. is_some (stop_at p n)) ns && are_distinct ns

-- whether the route also has the other stop of each stop's pair (rules 3 and 4)
abbrev pub has_whole_pairs : Instance → List ℕ → Bool
has_whole_pairs p route = list_all (λ n. option_map_or (has route) (partner_at p n) true) route

-- whether no pickup comes after its delivery (rule 5)
abbrev pub picks_up_first : Instance → List ℕ → Bool
picks_up_first p [] = true
picks_up_first p (n ∷ ns) = not (option_map_or (has ns) (pickup_at p n) false) && picks_up_first p ns

-- the places of a route's stops
abbrev pub places_of : List ℕ → List ℕ
places_of route = range_with_len 1 (length route)

-- whether the load never exceeds the capacity (rule 6)
abbrev pub keeps_capacity : Instance → List ℕ → Bool
keeps_capacity p route = list_all (λ i. not (exceeds_capacity (load p route i) p.capacity)) (places_of route)

-- whether each service starts by its stop's latest time (rule 7)
abbrev pub keeps_windows : Instance → List ℕ → Bool
keeps_windows p route = list_all (λ i. nat_le (start p route i) (place p route i).latest) (places_of route)

-- whether a vehicle that leaves returns by the depot's latest time (rule 8)
abbrev pub is_back_in_time : Instance → List ℕ → Bool
is_back_in_time p route = (length route == 0) || nat_le (start p route (length route + 1)) p.depot.latest

-- whether the rules on times hold, if the problem has times
abbrev pub keeps_times : Kind → Instance → List ℕ → Bool
keeps_times LiLim p route = keeps_windows p route && is_back_in_time p route
keeps_times Vrp p route = true

-- whether the list breaks none of the rules 3 to 8 as the only route
unfoldable pub feasible_alone : Instance → List ℕ → Bool
feasible_alone p route = has_whole_pairs p route && (picks_up_first p route && (keeps_capacity p route && keeps_times p.kind p route))

-- whether each route begins with its pin (rule 10)
abbrev pub begin_with_pins : List (List ℕ) → List (List ℕ) → Bool
begin_with_pins routes [] = true
begin_with_pins [] (pin ∷ pins) = (length pin == 0) && begin_with_pins [] pins
begin_with_pins (route ∷ routes) (pin ∷ pins) = starts_with nat_eq route pin && begin_with_pins routes pins

-- whether the plan passes with these pins: its stops are distinct stops of current requests, each vehicle has a
-- route (rule 9), and each route is feasible alone and begins with its pin
unfoldable pub passes : Instance → List (List ℕ) → List (List ℕ) → Bool
passes p pins routes = are_distinct_stops p (concat routes) && ((length routes == p.fleet) && (list_all (feasible_alone p) routes && begin_with_pins routes pins))
