-- The stops that are drawn, and the part of a route that is drawn.
use Rattle.std.specs.Prelude.{zero, suc, ℕ, ◌==◌, ◌&&◌, not, Bool, true, false, List, [], ◌∷◌, ◌++◌, Option, Some, None, is_some, if◌then◌else◌}
use Rattle.std.specs.List.{flat_map, list_any}
use Rattle.plan_types.specs.Instance.{Instance, stop_at}
use Rattle.plan_types.specs.declared.requests.Stop.{Stop}
use Rattle.route_sched.specs.VisitList.{visits_from}
use Rattle.route_sched.specs.declared.visits.Visit.{Visit}

-- an optional stop as a list
abbrev pub listed : Option Stop → List Stop
listed None = []
listed (Some s) = s ∷ []

-- the stops with numbers below this one, in ascending order
abbrev pub stops_below : Instance → ℕ → List Stop
stops_below p zero = []
stops_below p (suc n) = stops_below p n ++ listed (stop_at p n)

-- the stops of the problem, in ascending order of number
abbrev pub stops_in_order : Instance → List Stop
stops_in_order p = stops_below p p.next_number

-- the problem has this stop, and it is not among the kept ones
abbrev pub is_new : Instance → List ℕ → ℕ → Bool
is_new p kept n = is_some (stop_at p n) && not (list_any (λ m. m == n) kept)

-- the kept stops, followed by the stops of `route` that the problem has, each at its first place
abbrev pub kept_after : Instance → List ℕ → List ℕ → List ℕ
kept_after p kept [] = kept
kept_after p kept (n ∷ route) = kept_after p (if is_new p kept n then kept ++ n ∷ [] else kept) route

-- the part of a route that is drawn: the stops that the problem has, each at its first place
abbrev pub kept_of : Instance → List ℕ → List ℕ
kept_of p route = kept_after p [] route

-- the visits of a route, with the return
abbrev pub visits_of : Instance → List ℕ → List Visit
visits_of p route = visits_from p route 0

-- the stops of a route, in its order
abbrev pub stops_along : Instance → List ℕ → List Stop
stops_along p route = flat_map (λ n. listed (stop_at p n)) route

-- the stop with this number among these
abbrev pub stop_among : ℕ → List Stop → Option Stop
stop_among n [] = None
stop_among n (s ∷ stops) = if s.number == n then Some s else stop_among n stops

-- a route has this stop
abbrev pub is_served : List (List ℕ) → ℕ → Bool
is_served [] n = false
is_served (route ∷ routes) n = if list_any (λ m. m == n) route then true else is_served routes n

-- the stops that are in no route
abbrev pub unserved_one : List (List ℕ) → Stop → List Stop
unserved_one routes s = if is_served routes s.number then [] else s ∷ []

abbrev pub unserved : List (List ℕ) → List Stop → List Stop
unserved routes stops = flat_map (unserved_one routes) stops
