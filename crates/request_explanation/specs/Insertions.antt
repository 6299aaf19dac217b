-- One more stop in a route whose rows are known: the rows before the stop stay, the stop gets a row of its own,
-- and later rows are delayed.
use Rattle.std.specs.Prelude.{◌≡◌, ◌⊎◌, ℕ, ◌+◌, ◌-◌, ◌<◌, max, ℤ, pos, ◌+ℤ◌, List, map, length, drop, slice_index_or, Option, None, Some, Bool, false, true}
use Rattle.std.specs.List.{insert}
use Rattle.std.specs.Option.{option_or}
use Rattle.plan_types.specs.Instance.{Instance}
use Rattle.plan_types.specs.Limits.{IsVisit}
use Rattle.plan_types.specs.declared.requests.Stop.{Stop}
use Rattle.nint_dist.specs.Distance.{distance}
use Rattle.route_sched.specs.Route.{AreDistinctStops, place, stop_numbered}
use Rattle.route_sched.specs.Schedule.{leg, route_length}
use Rattle.plan_explain.specs.Tables.{rows_of}
use Rattle.plan_explain.specs.declared.rows.Row.{Row}
use Rattle.request_explanation.specs.LimitViolations.{is_late, lateness_in, violates_less, overload_in}
use Rattle.request_explanation.specs.LatestArrivals.{AreLatestArrivals}
use Rattle.request_explanation.specs.MovedRows.{moved_from}
use Rattle.request_explanation.specs.declared.limit_violations.LimitViolation.{LimitViolation}
use Rattle.request_explanation.specs.declared.insertions.Detour.{Detour}
use Rattle.request_explanation.specs.declared.insertions.FirstViolations.{FirstViolations}
use Rattle.request_explanation.specs.declared.insertions.Tour.{Tour}
use Rattle.request_explanation.specs.declared.trials.Trial.{Trial}

-- the first overload and the first lateness of some rows
abbrev pub violations_in : Instance → List Row → FirstViolations
violations_in p rows = record { over = overload_in p.capacity rows; late = lateness_in p.kind rows }

-- the first violations of some rows that are followed by other rows
abbrev pub violations_then : FirstViolations → FirstViolations → FirstViolations
violations_then f g = record { over = option_or f.over g.over; late = option_or f.late g.late }

-- the row of a stop that follows the row `here`, after this service and travel time
abbrev pub inserted_row : Row → ℕ → ℕ → Stop → Row
inserted_row here service travel s = record {
  place = here.place + 1;
  stop = s.number;
  arrival = here.start + service + travel;
  start = max (here.start + service + travel) s.earliest;
  earliest = s.earliest;
  latest = s.latest;
  load = here.load +ℤ s.demand;
}

-- the arrival at the next stop, if the stop of the tour is inserted after the row `here`
abbrev pub arrival_with : Tour → Detour → Row → ℕ
arrival_with tour detour here = (inserted_row here detour.service detour.to tour.stop.now).start + tour.stop.now.service + detour.from

-- The inserted stop is late, or the vehicle arrives at the next stop too late by more than 1. One more stop in
-- between can't prevent a violation then, since a detour saves at most 1.
abbrev pub IsLateAnyway : Tour → Detour → ℕ → Row → Type 0
IsLateAnyway tour detour at here =
    (is_late (inserted_row here detour.service detour.to tour.stop.now) ≡ true) ⊎ (slice_index_or tour.latest_arrivals.now at 0 + 1 < arrival_with tour detour here)

-- the rows with each load changed by `change`
abbrev pub with_load_change : ℤ → List Row → List Row
with_load_change change rows = map (λ (r : Row). record r { load = r.load +ℤ change }) rows

-- the first violation, if `found` has the first violations of the rows before these
abbrev pub violation_after : Instance → FirstViolations → ℕ → ℕ → ℤ → List Row → Option LimitViolation
violation_after p found now before change rows =
    option_or (option_or found.over (overload_in p.capacity (with_load_change change rows))) (option_or found.late (lateness_in p.kind (moved_from now before (pos 0) rows)))

-- the tour has the values of its route, and a stop that may be inserted
pub record IsTour (p : Instance) (tour : Tour) : Type 0 where
  pub once : AreDistinctStops p tour.route.now
  pub rows : tour.rows.now ≡ rows_of p tour.route.now
  pub long : length tour.rows.now ≡ length tour.route.now + 1
  pub latest_arrivals : AreLatestArrivals tour.rows.now tour.latest_arrivals.now
  pub distance : tour.distance ≡ route_length p tour.route.now
  pub visit : IsVisit tour.stop.now

-- the legs to the stop and from it after the first `at` stops, and the leg that they replace
pub record IsDetour (p : Instance) (tour : Tour) (at : ℕ) (detour : Detour) : Type 0 where
  pub service : detour.service ≡ (place p tour.route.now at).service
  pub to : detour.to ≡ distance (place p tour.route.now at) tour.stop.now
  pub from : detour.from ≡ distance tour.stop.now (place p tour.route.now (at + 1))
  pub travel : detour.travel ≡ leg p tour.route.now at

-- the stop of the tour has this number
abbrev pub IsNumberOf : Instance → Tour → ℕ → Type 0
IsNumberOf p tour number = stop_numbered p number ≡ tour.stop.now

-- the route with the stop inserted after the first `at` stops
abbrev pub route_with : Tour → ℕ → ℕ → List ℕ
route_with tour at number = insert tour.route.now at number

-- `base` has the values of this route, and the stop `s`, which may be inserted
pub record IsBase (p : Instance) (route : List ℕ) (s : Stop) (base : Tour) : Type 0 where
  pub tour : IsTour p base
  pub same : base.route.now ≡ route
  pub number : IsNumberOf p base s.number

-- `picked` is the route with the stop of `base`, the pickup, inserted at this place
pub record HasPickupAt (p : Instance) (base : Tour) (place : ℕ) (picked : List ℕ) : Type 0 where
  pub number : ℕ
  pub is : IsNumberOf p base number
  pub put : picked ≡ route_with base (place - 1) number

-- no load after the first `at` stops exceeds the capacity with the demand of the tour's stop added
abbrev pub FitsCapacity : Instance → Tour → ℕ → Type 0
FitsCapacity p tour at = overload_in p.capacity (with_load_change tour.stop.now.demand (drop at tour.rows.now)) ≡ None

-- the least violation that a route can have if it begins with the rows in which `f` was found
abbrev pub least_of : FirstViolations → Option LimitViolation
least_of f = option_or f.over f.late

-- the best trial so far violates less than every route that begins with the rows in which `front` was found
abbrev pub is_settled : FirstViolations → Option Trial → Bool
is_settled front None = false
is_settled front (Some best) = violates_less best.violation (least_of front)
