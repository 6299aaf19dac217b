-- The moves from plan to plan. Each returns the plan that it defines if that plan passes. Vehicles and places
-- count from 1.
use Rattle.std.specs.Prelude.{ℕ, nat_le, ◌==◌, ◌&&◌, not, Bool, true, false, List, ◌++◌, length, take, drop, map, filter, Option, None, if◌then◌else◌}
use Rattle.std.specs.List.{list_all}
use Rattle.std.specs.Option.{option_map_or, option_and_then}
use Rattle.plan_types.specs.Instance.{Instance, name_at}
use Rattle.plan_types.specs.declared.requests.Request.{Request}
use Rattle.plan_types.specs.declared.requests.Request.TheVariants.{Single, Pair}
use Rattle.route_sched.specs.Cost.{is_planned}
use Rattle.plan_audit.specs.Passes.{has}
use Rattle.move_ops.specs.Insertion.{request_named, route_of, passing, with_route}

-- a planned request without a pinned stop
abbrev pub is_movable : List (List ℕ) → List (List ℕ) → Request → Bool
is_movable pins routes r = is_planned routes r && not (is_planned pins r)

abbrev pub is_movable_name : Instance → List (List ℕ) → List (List ℕ) → ℕ → Bool
is_movable_name p pins routes name = option_map_or (is_movable pins routes) (request_named p name) false

-- the stop belongs to one of the named requests
abbrev pub is_of_named : Instance → List ℕ → ℕ → Bool
is_of_named p names n = option_map_or (has names) (name_at p n) false

-- the routes without the stops of the named requests
abbrev pub without_named : Instance → List ℕ → List (List ℕ) → List (List ℕ)
without_named p names routes = map (filter (λ n. not (is_of_named p names n))) routes

-- `remove`: the plan without these requests, all removed at once, if each can be moved
abbrev pub removed : Instance → List (List ℕ) → List (List ℕ) → List ℕ → Option (List (List ℕ))
removed p pins routes names = if list_all (is_movable_name p pins routes) names then passing p pins (without_named p names routes) else None

-- a for b and b for a; any other number stays
abbrev pub swapped : ℕ → ℕ → ℕ → ℕ
swapped a b n = if n == a then b else if n == b then a else n

-- both requests are singles, or both are pairs
abbrev pub have_same_form : Request → Request → Bool
have_same_form (Single s) (Single t) = true
have_same_form (Single s) (Pair c d) = false
have_same_form (Pair a b) (Single t) = false
have_same_form (Pair a b) (Pair c d) = true

-- each stop of one request replaced by that of the other: pickup by pickup, delivery by delivery
abbrev pub counterpart : Request → Request → ℕ → ℕ
counterpart (Single s) (Single t) n = swapped s.number t.number n
counterpart (Single s) (Pair c d) n = n
counterpart (Pair a b) (Single t) n = n
counterpart (Pair a b) (Pair c d) n = swapped a.number c.number (swapped b.number d.number n)

-- both requests can be moved, and both are singles or both are pairs
abbrev pub are_exchangeable : List (List ℕ) → List (List ℕ) → Request → Request → Bool
are_exchangeable pins routes r s = is_movable pins routes r && (is_movable pins routes s && have_same_form r s)

abbrev pub exchange_of : Instance → List (List ℕ) → List (List ℕ) → Request → Request → Option (List (List ℕ))
exchange_of p pins routes r s =
    if are_exchangeable pins routes r s then passing p pins (map (map (counterpart r s)) routes) else None

-- `exchange`: two requests that can be moved take one another's places
abbrev pub exchanged : Instance → List (List ℕ) → List (List ℕ) → ℕ → ℕ → Option (List (List ℕ))
exchanged p pins routes a b =
    if a == b then None else option_and_then (λ r. option_and_then (λ s. exchange_of p pins routes r s) (request_named p b)) (request_named p a)

-- the vehicle exists, and its route can be cut after c stops: the route has at least c, and its pin at most c
abbrev pub is_cut : List (List ℕ) → List (List ℕ) → ℕ → ℕ → Bool
is_cut pins routes v c = nat_le 1 v && (nat_le v (length routes) && (nat_le (length (route_of pins v)) c && nat_le c (length (route_of routes v))))

-- the first c stops of one route, followed by another route after its first d stops
abbrev pub joined : List ℕ → ℕ → List ℕ → ℕ → List ℕ
joined one c other d = take c one ++ drop d other

-- the plan in which vehicles a and b exchange the stops after their cuts
abbrev pub with_ends_exchanged : List (List ℕ) → ℕ → ℕ → ℕ → ℕ → List (List ℕ)
with_ends_exchanged routes a ca b cb =
    with_route (with_route routes a (joined (route_of routes a) ca (route_of routes b) cb)) b (joined (route_of routes b) cb (route_of routes a) ca)

-- `two_opt_star`: the plan with the ends exchanged, if the vehicles differ and both cuts are valid
abbrev pub crossed : Instance → List (List ℕ) → List (List ℕ) → ℕ → ℕ → ℕ → ℕ → Option (List (List ℕ))
crossed p pins routes a ca b cb =
    if not (a == b) && (is_cut pins routes a ca && is_cut pins routes b cb) then passing p pins (with_ends_exchanged routes a ca b cb)
    else None
