-- Lemmas about the route of a vehicle.
use Rattle.std.proofs.Common.{ℕ, zero, suc, List, [], ◌∷◌, All, slice_get, unwrap_or}
use Rattle.std.specs.List.{AllByRecursion, IsDistinct}
use Rattle.std.proofs.lemmas.List.Elements.{All-nil, recursion_from_All}
use Rattle.plan_types.specs.Instance.{Instance}
use Rattle.route_sched.specs.Route.{AreDistinctStops, IsKnownStop}
use Rattle.move_ops.specs.Insertion.{route_of}

none_once : (p : Instance) → AreDistinctStops p []
unfolding IsDistinct
none_once p = record { live = All-nil (IsKnownStop p); distinct = tt }

at : (P : List ℕ → Type 0) → P [] → (xs : List (List ℕ)) (k : ℕ) → AllByRecursion P xs → P (unwrap_or (slice_get xs k) [])
at P none [] k all = none
at P none (x ∷ xs) zero all = all.0
at P none (x ∷ xs) (suc k) all = at P none xs k all.1

-- if the stops of each route are known and distinct, so are those of vehicle v
pub vehicle_once : (p : Instance) (routes : List (List ℕ)) (v : ℕ) → All (AreDistinctStops p) routes → AreDistinctStops p (route_of routes v)
vehicle_once p routes zero all = none_once p
vehicle_once p routes (suc k) all = at (AreDistinctStops p) (none_once p) routes k (recursion_from_All (AreDistinctStops p) routes all)
