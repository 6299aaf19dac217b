-- An inserted request saves little: at most one unplanned request, no vehicle, and a distance of 1 for each of
-- its stops.
use Rattle.std.proofs.Common.{◌≡◌, ℕ, zero, suc, ◌+◌, ◌-◌, ◌≤◌, ◌&&◌, not, cond, eqb, Bool, true, false}
use Rattle.std.proofs.Common.{List, [], ◌∷◌, length, Option, Some, None, unwrap_or, refl, sym, ap, subst, arith, add-one, nat_eq}
use Rattle.std.specs.List.{insert}
use Rattle.std.specs.Map.{lookup}
use Rattle.std.specs.Option.{option_and_then}
use Rattle.std.proofs.lemmas.Bool.{not-true}
use Rattle.std.proofs.lemmas.List.Edits.{length-insert}
use Rattle.nint_dist.specs.Distance.{distance, DetoursSaveAtMostOne}
use Rattle.plan_types.specs.Instance.{Instance, IsInstance}
use Rattle.plan_types.specs.Laws.{NamedRequestsAreFound, RequestsAreStoredByName, StopsAreBelowNext}
use Rattle.plan_types.specs.declared.requests.Request.{Request}
use Rattle.plan_types.specs.declared.requests.Request.TheVariants.{Single, Pair}
use Rattle.plan_types.specs.declared.requests.Kind.{Kind}
use Rattle.plan_types.specs.declared.requests.Kind.TheVariants.{LiLim, Vrp}
use Rattle.route_sched.specs.Cost.{is_planned, cost_of, vehicle_count}
use Rattle.route_sched.specs.Route.{place}
use Rattle.route_sched.specs.Schedule.{route_length}
use Rattle.plan_audit.specs.Locality.{PassingIsLocal, FeasibleAloneDecidesFeasibility}
use Rattle.plan_audit.specs.Passes.{passes}
use Rattle.slack_tables.specs.Along.{length_along}
use Rattle.slack_tables.specs.Insertion.{ArePlaces}
use Rattle.slack_tables.proofs.AlongLemmas.{length-next}
use Rattle.move_ops.specs.Changes.{used, IsInsertable}
use Rattle.move_ops.specs.Insertion.{Insertion, request_named, inserted, route_of, with_route, with_request_at, is_place_of, inserted_at, best_insertion, passing}
use Rattle.move_ops.specs.Moves.{joined}
use Rattle.move_ops.specs.Savings.{max_saving_by, max_saving, SavesAtMost, PlacementsSaveLittle}
use Rattle.move_ops.proofs.ChoiceLemmas.{to_places, name_of}
use Rattle.move_ops.proofs.InsertionCosts.{replaced, used_some}
use Rattle.move_ops.proofs.ValidPlaceLemmas.{is_put}
use Rattle.move_ops.proofs.RouteDistanceLemmas.{length_joined}
use Rattle.move_ops.proofs.OccurrenceLemmas.{none_some, some_same}

-- ---- one more stop
-- without the inserted stop the route is the old one
left_out : (route : List ℕ) (m n : ℕ) → m ≤ length route → joined (insert route m n) m (insert route m n) (suc m) ≡ route
left_out route zero n within = refl
left_out [] (suc m) n within = absurd (omega arith)
left_out (x ∷ xs) (suc m) n within = ap (λ rest. x ∷ rest) (left_out xs m n (omega arith))

module _ (triangle : DetoursSaveAtMostOne) (p : Instance) where
  one_stop : (route : List ℕ) (m n : ℕ) → m ≤ length route → route_length p route ≤ route_length p (insert route m n) + 1
  one_stop route m n within =
      let new = insert route m n in
      let long = length-insert route m n within in
      let e = length_joined p new new m (suc m) (omega arith) (omega arith) in
      let same : route_length p (joined new m new (suc m)) ≡ route_length p route = ap (route_length p) (left_out route m n within) in
      let next = length-next (place p new) m in
      let less = triangle (place p new m) (place p new (suc m + 1)) (place p new (suc m)) in
      let there : distance (place p new m) (place p new (m + 1)) ≡ distance (place p new m) (place p new (suc m)) =
      ap (λ k. distance (place p new m) (place p new k)) (add-one m) in
      let far : length_along (place p new) (m + 1) ≡ length_along (place p new) (suc m) = ap (length_along (place p new)) (add-one m) in
      omega arith

  -- inserting the stops of a request saves at most 1 for each of them
  by_stops : (r : Request) (route : List ℕ) (i j : ℕ) → ArePlaces r (length route) i j
      → route_length p route ≤ route_length p (inserted r i j route) + max_saving_by r
  by_stops (Single s) route i j places = let high = places.1 in one_stop route (i - 1) s.number (omega arith)
  by_stops (Pair a b) route i j places =
      let low = places.0 in
      let order = places.1 in
      let high = places.2 in
      let first = one_stop route (i - 1) a.number (omega arith) in
      let long = length-insert route (i - 1) a.number (omega arith) in
      let second = one_stop (insert route (i - 1) a.number) (j - 1) b.number (omega arith) in
      omega arith

-- a route with a request has a stop
some_stop : (r : Request) (route : List ℕ) (i j : ℕ) → ArePlaces r (length route) i j → length (inserted r i j route) ≡ 0 → ⊥
some_stop (Single s) route i j places none = let high = places.1 in let long = length-insert route (i - 1) s.number (omega arith) in omega arith
some_stop (Pair a b) route i j places none =
    let high = places.2 in
    let order = places.1 in
    let one = length-insert route (i - 1) a.number (omega arith) in
    let two = length-insert (insert route (i - 1) a.number) (j - 1) b.number (omega arith) in
    omega arith

one_or_none : (b : Bool) → cond b 1 0 ≤ 1
one_or_none true = omega arith
one_or_none false = omega arith

no_fewer : (kind : Kind) (routes : List (List ℕ)) (v : ℕ) (new : List ℕ) → 1 ≤ v → v ≤ length routes → (length new ≡ 0 → ⊥)
    → vehicle_count kind routes ≤ vehicle_count kind (with_route routes v new)
no_fewer Vrp routes v new from within some = omega arith
no_fewer LiLim routes v new from within some =
    let e = replaced used routes v new from within in
    let f = one_or_none (not (eqb (length (route_of routes v)) 0)) in
    let g = used_some new some in
    omega arith

-- ---- one more request
module _ (triangle : DetoursSaveAtMostOne) (p : Instance) (pins routes : List (List ℕ)) (r : Request) where
  put_saves : (x : Insertion) → IsInsertable p pins routes r x → SavesAtMost 1 (max_saving_by r) (cost_of p routes) (cost_of p (with_request_at routes r x))
  put_saves x put =
      let places = (to_places r 0 (length (route_of routes x.0)) x.1 x.2 put.places).0 in
      let e = replaced (route_length p) routes x.0 (inserted r x.1 x.2 (route_of routes x.0)) (put.from) (put.within) in
      let f = by_stops triangle p r (route_of routes x.0) x.1 x.2 places in
      record {
        unplanned = omega (arith, put.unplanned);
        vehicles =
            no_fewer p.kind routes x.0 (inserted r x.1 x.2 (route_of routes x.0)) (put.from) (put.within)
            (some_stop r (route_of routes x.0) x.1 x.2 places);
        distance = omega arith;
      }

same_plan : (c : ℕ) (d : ℕ) (p : Instance) (routes : List (List ℕ)) → SavesAtMost c d (cost_of p routes) (cost_of p routes)
same_plan c d p routes = record { unplanned = omega arith; vehicles = omega arith; distance = omega arith }

module _ (law : NamedRequestsAreFound) (stored : RequestsAreStoredByName) (local : PassingIsLocal) (says : FeasibleAloneDecidesFeasibility)
    (below : StopsAreBelowNext) (triangle : DetoursSaveAtMostOne) where
  -- the new plan has the request at a place where it can be inserted
  made_saves : (p : Instance) (pins routes : List (List ℕ)) (name : ℕ) (x : Insertion) (new : List (List ℕ)) → IsInstance p
      → passes p pins routes ≡ true → inserted_at p pins routes name x ≡ Some new
      → SavesAtMost 1 (max_saving p name) (cost_of p routes) (cost_of p new)
  made_saves p pins routes name x new valid good is = by (request_named p name) refl is
    where
      passed : (r : Request) → lookup (nat_eq name) p.requests ≡ Some r → (free here good_then : Bool)
          → not (is_planned routes r) ≡ free → is_place_of pins routes r x ≡ here → passes p pins (with_request_at routes r x) ≡ good_then
          → cond (free && here) (cond good_then (Some (with_request_at routes r x)) None) None ≡ Some new
          → SavesAtMost 1 (max_saving_by r) (cost_of p routes) (cost_of p new)
      passed r named true true true f g h e =
          let under = name_of p.requests name r (valid.named) named in
          let put = is_put law stored local says below p pins routes valid good r
          (subst (λ k. lookup (nat_eq k) p.requests ≡ Some r) (sym under) named) x (not-true (is_planned routes r) f) g h in
          subst (λ plan. SavesAtMost 1 (max_saving_by r) (cost_of p routes) (cost_of p plan))
          (some_same (with_request_at routes r x) new e) (put_saves triangle p pins routes r x put)
      passed r named false here good_then f g h e = absurd (none_some new e)
      passed r named true false good_then f g h e = absurd (none_some new e)
      passed r named true true false f g h e = absurd (none_some new e)

      by : (o : Option Request) → request_named p name ≡ o
          → option_and_then
          (λ r. cond (not (is_planned routes r) && is_place_of pins routes r x) (passing p pins (with_request_at routes r x)) None) o
          ≡ Some new
          → SavesAtMost 1 (max_saving p name) (cost_of p routes) (cost_of p new)
      by None named e = absurd (none_some new e)
      by (Some r) named e =
          rw named (passed r named (not (is_planned routes r)) (is_place_of pins routes r x)
          (passes p pins (with_request_at routes r x)) refl refl refl e)

  pub placements_save_little : PlacementsSaveLittle
  placements_save_little p pins routes name valid good = by (best_insertion p pins routes name) refl
    where
      made : (x : Insertion) (o : Option (List (List ℕ))) → inserted_at p pins routes name x ≡ o
          → SavesAtMost 1 (max_saving p name) (cost_of p routes) (cost_of p (unwrap_or o routes))
      made x None e = same_plan 1 (max_saving p name) p routes
      made x (Some new) e = made_saves p pins routes name x new valid good e

      by : (o : Option Insertion) → best_insertion p pins routes name ≡ o
          → SavesAtMost 1 (max_saving p name) (cost_of p routes)
          (cost_of p (unwrap_or (option_and_then (inserted_at p pins routes name) o) routes))
      by None e = same_plan 1 (max_saving p name) p routes
      by (Some x) e = made x (inserted_at p pins routes name x) refl
