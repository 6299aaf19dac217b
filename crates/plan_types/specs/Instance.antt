-- A problem as plain data: what contracts see of a `Problem`.
use Rattle.std.specs.Prelude.{◌≡◌, ℕ, ◌<◌, ◌≤◌, max, nat_lt, nat_eq, List, [], ◌∷◌, ◌++◌, map, filter, not, ◌==◌, Option, None, ◌⊎◌, IsSome}
use Rattle.std.specs.List.{AllByRecursion, IsDistinct, flat_map}
use Rattle.std.specs.List.Sorted.{IsStrictlySortedBy}
use Rattle.std.specs.Ordering.{nat_cmp}
use Rattle.std.specs.Option.{option_map, option_or, option_and_then}
use Rattle.std.specs.Map.{keys_of}
use Rattle.plan_types.specs.Limits.{IsDepot, IsCapacity, IsFleet}
use Rattle.plan_types.specs.Request.{request_name, stops_of, stop_in, partner_in, pickup_in, number_after, IsRequest}
use Rattle.plan_types.specs.declared.requests.Stop.{Stop}
use Rattle.plan_types.specs.declared.requests.Request.{Request}
use Rattle.plan_types.specs.declared.requests.Request.TheVariants.{Single, Pair}
use Rattle.plan_types.specs.declared.requests.Kind.{Kind}

-- the public fields of a problem, with the requests as a list of (name, request)
pub record Instance : Type 0 where
  pub kind : Kind
  pub depot : Stop
  pub capacity : ℕ
  pub fleet : ℕ
  pub requests : List (ℕ × Request)
  pub next_number : ℕ

-- the stops of the requests, in order
abbrev pub stops_among : List (ℕ × Request) → List Stop
stops_among es = flat_map (λ e. stops_of e.1) es

-- the numbers of the stops of the requests
abbrev pub numbers_among : List (ℕ × Request) → List ℕ
numbers_among es = map (λ s. s.number) (stops_among es)

-- the first value that f returns for one of the requests, in order
abbrev pub first_some : {X : Type 0} → (Request → Option X) → List (ℕ × Request) → Option X
first_some f [] = None
first_some f (e ∷ es) = option_or (f e.1) (first_some f es)

-- the stop with this number
abbrev pub stop_at : Instance → ℕ → Option Stop
stop_at p n = first_some (stop_in n) p.requests

-- the request that has the stop with this number
abbrev pub request_with : Instance → ℕ → Option Request
request_with p n = first_some (λ r. option_map (λ _. r) (stop_in n r)) p.requests

-- the name of the request that has the stop with this number
abbrev pub name_at : Instance → ℕ → Option ℕ
name_at p n = option_map request_name (request_with p n)

-- the number of the other stop of the pair that has the stop with this number
abbrev pub partner_at : Instance → ℕ → Option ℕ
partner_at p n = option_and_then (partner_in n) (request_with p n)

-- the number of the pickup, if the stop with this number is a delivery
abbrev pub pickup_at : Instance → ℕ → Option ℕ
pickup_at p n = option_and_then (pickup_in n) (request_with p n)

-- a valid problem: each number keeps its limits, each request is stored under its own name, names are strictly
-- ascending, all stop numbers are different, and `next_number` is above them
pub record IsInstance (p : Instance) : Type 0 where
  pub depot : IsDepot p.depot
  pub capacity : IsCapacity p.capacity
  pub fleet : IsFleet p.fleet
  pub named : AllByRecursion (λ e. e.0 ≡ request_name e.1) p.requests
  pub valid : AllByRecursion (λ e. IsRequest e.1) p.requests
  pub ascending : IsStrictlySortedBy nat_cmp (keys_of p.requests)
  pub distinct : IsDistinct nat_eq (numbers_among p.requests)
  pub above : AllByRecursion (λ n. n < p.next_number) (numbers_among p.requests)
  pub next_number_min : 1 ≤ p.next_number
  pub next_number_max : p.next_number ≤ 40001

-- one of the request's numbers is the number of a stop of the problem
abbrev pub IsTaken : Instance → Request → Type 0
IsTaken p (Single s) = IsSome (stop_at p s.number)
IsTaken p (Pair a b) = IsSome (stop_at p a.number) ⊎ IsSome (stop_at p b.number)

-- the requests with smaller names than this one, and those with greater names
abbrev pub lesser_names : List (ℕ × Request) → ℕ → List (ℕ × Request)
lesser_names es name = filter (λ e. nat_lt e.0 name) es

abbrev pub greater_names : List (ℕ × Request) → ℕ → List (ℕ × Request)
greater_names es name = filter (λ e. nat_lt name e.0) es

-- the requests with smaller names come first, then those with greater names, and no request has this name
abbrev pub Splits : List (ℕ × Request) → ℕ → Type 0
Splits es name = lesser_names es name ++ greater_names es name ≡ es

-- the requests and one more, placed between those with smaller and those with greater names
abbrev pub with_entry : List (ℕ × Request) → Request → List (ℕ × Request)
with_entry es r = lesser_names es (request_name r) ++ (request_name r, r) ∷ greater_names es (request_name r)

-- the problem with one more request
abbrev pub with_request : Instance → Request → Instance
with_request p r = record p { requests = with_entry p.requests r; next_number = max p.next_number (number_after r) }

-- the requests with other names
abbrev pub without_entry : List (ℕ × Request) → ℕ → List (ℕ × Request)
without_entry es name = filter (λ e. not (e.0 == name)) es

-- the problem without the request of this name; `next_number` stays, so that no number is reused
abbrev pub without_request : Instance → ℕ → Instance
without_request p name = record p { requests = without_entry p.requests name }

-- a problem without requests
abbrev pub new_instance : Kind → Stop → ℕ → ℕ → Instance
new_instance kind depot capacity fleet = record { kind = kind; depot = depot; capacity = capacity; fleet = fleet; requests = []; next_number = 1 }
