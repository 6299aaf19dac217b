-- Lemmas about lists of routes, and about parts of routes whose stops are current and distinct
use Rattle.std.proofs.Common.{◌≡◌, ℕ, zero, suc, true, List, [], ◌∷◌, take, ap, subst, sym, ◌∙◌}
use Rattle.std.specs.List.{AllByRecursion, IsDistinct}
use Rattle.std.proofs.lemmas.List.Elements.{All-nil, recursion_from_All}
use Rattle.plan_types.specs.Instance.{Instance}
use Rattle.route_sched.specs.Route.{IsKnownStop, AreDistinctStops}
use Rattle.route_sched.proofs.KnownStops.{front_once}
use Rattle.plan_audit.specs.Passes.{passes}
use Rattle.plan_audit.specs.Locality.{PassingIsLocal, PlansAreDisjointRoutes}
use Rattle.move_ops.specs.Insertion.{route_of}

-- If a property holds for all lists and for the empty list, it holds for the list of any vehicle
pub of_vehicle_has : (P : List ℕ → Type 0) → P [] → (lists : List (List ℕ)) → AllByRecursion P lists → (v : ℕ) → P (route_of lists v)
of_vehicle_has P none lists all zero = none
of_vehicle_has P none [] all (suc v) = none
of_vehicle_has P none (r ∷ rs) all (suc zero) = all.0
of_vehicle_has P none (r ∷ rs) all (suc (suc v)) = of_vehicle_has P none rs all.1 (suc v)

no_stops_once : (p : Instance) → AreDistinctStops p []
unfolding IsDistinct
no_stops_once p = record { live = All-nil (IsKnownStop p); distinct = tt }

-- The first stops of a route of a passing plan are current and distinct
pub prefix_of_route_once : PassingIsLocal → PlansAreDisjointRoutes → (p : Instance) (pins routes : List (List ℕ)) → passes p pins routes ≡ true → (v k : ℕ) (prefix route : List ℕ)
    → prefix ≡ take k route → route ≡ route_of routes v → AreDistinctStops p prefix
prefix_of_route_once local plans p pins routes good v k prefix route is_prefix is_route =
    let all = recursion_from_All (AreDistinctStops p) routes (((plans p routes).0 (((local p pins routes).0 good).plan)).0) in
    let whole = of_vehicle_has (AreDistinctStops p) (no_stops_once p) routes all v in
    subst (λ l. AreDistinctStops p l) (sym (is_prefix ∙ ap (take k) is_route)) (front_once p (route_of routes v) k whole)
