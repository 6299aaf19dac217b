-- The rules of the auditor, as properties of the routes and places of a plan. Routes and places count from 1.
use Rattle.std.specs.Prelude.{◌≡◌, ◌≢◌, ℕ, zero, suc, ◌+◌, ◌<◌, ◌≤◌, ◌<ℤ◌, pos, List, length, Option, Some, None, slice_get, ◌⊎◌}
use Rattle.plan_types.specs.Instance.{Instance, stop_at, partner_at, pickup_at}
use Rattle.route_sched.specs.Route.{place}
use Rattle.route_sched.specs.Schedule.{start, load}
use Rattle.plan_types.specs.declared.requests.Kind.TheVariants.{LiLim}

-- the item at a place, counted from 1
abbrev pub item_at : {X : Type 0} → List X → ℕ → Option X
item_at xs zero = None
item_at xs (suc k) = slice_get xs k

-- stop n is at place i of route r
abbrev pub HasStopAt : List (List ℕ) → ℕ → ℕ → ℕ → Type 0
HasStopAt routes r i n = (route : List ℕ) × (item_at routes r ≡ Some route) × (item_at route i ≡ Some n)

-- stop n is at some place of the plan
abbrev pub IsVisited : List (List ℕ) → ℕ → Type 0
IsVisited routes n = (r : ℕ) × (i : ℕ) × HasStopAt routes r i n

-- place (q, j) comes before place (r, i): in an earlier route, or earlier in the same route
abbrev pub IsEarlier : ℕ → ℕ → ℕ → ℕ → Type 0
IsEarlier q j r i = (q < r) ⊎ ((q ≡ r) × (j < i))

-- (r, i, n) comes no later than (q, j, m): by route, then by place, then by stop
abbrev pub IsNotAfter : ℕ → ℕ → ℕ → ℕ → ℕ → ℕ → Type 0
IsNotAfter r i n q j m = (r < q) ⊎ ((r ≡ q) × ((i < j) ⊎ ((i ≡ j) × (n ≤ m))))

module _ (p : Instance) (routes : List (List ℕ)) where
  -- 1, unknown stop: the stop belongs to no request
  abbrev pub IsUnknown : ℕ → ℕ → ℕ → Type 0
  IsUnknown r i n = HasStopAt routes r i n × (stop_at p n ≡ None)

  -- 2, twice: the stop is at an earlier place too
  abbrev pub IsRepeated : ℕ → ℕ → ℕ → Type 0
  IsRepeated r i n = HasStopAt routes r i n × ((q : ℕ) × (j : ℕ) × IsEarlier q j r i × HasStopAt routes q j n)

  -- 3, missing: n is the other stop of the pair at this place, and is in no route
  abbrev pub IsMissing : ℕ → ℕ → ℕ → Type 0
  IsMissing r i n = (m : ℕ) × HasStopAt routes r i m × (partner_at p m ≡ Some n) × (IsVisited routes n → ⊥)

  -- 4, split pair: the other stop of the pair is in another route
  abbrev pub IsSplit : ℕ → ℕ → ℕ → Type 0
  IsSplit r i n = HasStopAt routes r i n × ((m : ℕ) × (partner_at p n ≡ Some m) × ((q : ℕ) × (j : ℕ) × (q ≢ r) × HasStopAt routes q j m))

  -- 5, delivery before pickup: the pickup is later in the route
  abbrev pub IsEarlyDelivery : ℕ → ℕ → ℕ → Type 0
  IsEarlyDelivery r i n = HasStopAt routes r i n × ((m : ℕ) × (pickup_at p n ≡ Some m) × ((j : ℕ) × (i < j) × HasStopAt routes r j m))

  -- 6, load: the load after this place exceeds the capacity
  abbrev pub IsOverloaded : ℕ → ℕ → ℕ → Type 0
  IsOverloaded r i n = (route : List ℕ) × (item_at routes r ≡ Some route) × (item_at route i ≡ Some n) × (pos p.capacity <ℤ load p route i)

  -- 7, late: with time windows, service starts after the stop's latest time
  abbrev pub IsLate : ℕ → ℕ → ℕ → Type 0
  IsLate r i n =
      (p.kind ≡ LiLim) × ((route : List ℕ) × (item_at routes r ≡ Some route) × (item_at route i ≡ Some n) × ((place p route i).latest < start p route i))

  -- 8, late return: with time windows, a vehicle that leaves returns after the depot's latest time; it is
  -- reported at the place after the last stop, as stop 0
  abbrev pub IsLateReturn : ℕ → ℕ → ℕ → Type 0
  IsLateReturn r i n =
      (p.kind ≡ LiLim)
      × ((route : List ℕ) × (item_at routes r ≡ Some route) × (0 < length route) × (i ≡ length route + 1) × (n ≡ 0) × (p.depot.latest < start p route i))
