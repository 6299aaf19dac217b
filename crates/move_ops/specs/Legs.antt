-- The legs that an exchange or a 2-opt* changes, and the cost computed from them.
use Rattle.std.specs.Prelude.{◌≡◌, ℕ, ◌+◌, ◌<◌, ◌≤◌, List, length, Some, slice_get}
use Rattle.nint_dist.specs.Distance.{distance}
use Rattle.plan_types.specs.Instance.{Instance}
use Rattle.plan_types.specs.declared.plans.Cost.{Cost}
use Rattle.plan_types.specs.Limits.{IsVisit}
use Rattle.plan_types.specs.declared.requests.Stop.{Stop}
use Rattle.plan_types.specs.declared.requests.Request.TheVariants.{Single}
use Rattle.route_sched.specs.Route.{place}
use Rattle.move_ops.specs.Insertion.{request_named, route_of}
use Rattle.move_ops.specs.declared.draft.costing.SinglePlace.{SinglePlace}
use Rattle.move_ops.specs.declared.draft.rearranging.Cut.{Cut}
use Rattle.move_ops.specs.declared.draft.rearranging.Cuts.{Cuts}

-- the vehicle has a route, and the index is below the route's length
pub record IsSinglePlace (routes : List (List ℕ)) (s : SinglePlace) : Type 0 where
  pub from : 1 ≤ s.vehicle
  pub within : s.vehicle ≤ length routes
  pub index : s.index < length (route_of routes s.vehicle)

-- the single with this name is at this place
pub record IsSinglePlaceOf (p : Instance) (routes : List (List ℕ)) (name : ℕ) (s : SinglePlace) : Type 0 where
  pub named : request_named p name ≡ Some (Single s.stop)
  pub visit : IsVisit s.stop
  pub place : IsSinglePlace routes s
  pub at : slice_get (route_of routes s.vehicle) s.index ≡ Some s.stop.number

-- two vehicles with the cuts of their routes
abbrev pub cuts_of : ℕ → ℕ → ℕ → ℕ → Cuts
cuts_of a a_cut b b_cut = record { first = record { vehicle = a; stops = a_cut }; second = record { vehicle = b; stops = b_cut } }

-- the vehicle has a route with at least `stops` stops
pub record IsCutOf (routes : List (List ℕ)) (c : Cut) : Type 0 where
  pub from : 1 ≤ c.vehicle
  pub within : c.vehicle ≤ length routes
  pub stops : c.stops ≤ length (route_of routes c.vehicle)

-- the distance from place k of the route to the stop, and on to place k + 2
abbrev pub distance_via : Instance → List ℕ → ℕ → Stop → ℕ
distance_via p route k s = distance (place p route k) s + distance s (place p route (k + 1 + 1))

-- the distance from a place of one route to a place of another
abbrev pub distance_across : Instance → List ℕ → ℕ → List ℕ → ℕ → ℕ
distance_across p from k to m = distance (place p from k) (place p to m)

-- the cost after legs with the total length `before` are replaced by legs with the total length `after`
pub record IsCostWithLegs (old : Cost) (before after : ℕ) (new : Cost) : Type 0 where
  pub unplanned : new.unplanned ≡ old.unplanned
  pub vehicles : new.vehicles ≡ old.vehicles
  pub distance : new.distance + before ≡ old.distance + after
