-- The assigned routes are the routes of the solution, each as often as in the solution, and each begins with the
-- pin of its vehicle.
use Rattle.std.proofs.Common.{◌≡◌, ℕ, zero, suc, ◌+◌, ◌-◌, ◌≤◌, ◌==◌, true, false, cond, not, eqb, nat_eq, List, [], ◌∷◌, ◌++◌, length, drop, replicate, refl, sym, ap, subst, ◌∙◌, arith}
use Rattle.std.proofs.Common.{Option, Some, None, Result, Ok, Err}
use Rattle.std.specs.Prelude.{IfOk, IfSome}
use Rattle.std.specs.List.{position, starts_with, sum_by}
use Rattle.std.specs.Option.{option_map}
use Rattle.std.proofs.lemmas.Bool.{and_from, and_parts, ne_eqb}
use Rattle.std.proofs.lemmas.List.{length-append, length-replicate}
use Rattle.std.proofs.lemmas.List.Quantifiers.{position-Some}
use Rattle.std.proofs.lemmas.List.Sums.{length-filter, sum_by-append, sum_by-cons, sum_by-set}
use Rattle.plan_types.specs.declared.plans.Plan.{Plan}
use Rattle.route_sched.specs.Cost.{used_count, used_routes}
use Rattle.plan_audit.specs.Passes.{begin_with_pins}
use Rattle.plan_audit.proofs.FleetLemmas.{used-most}
use Rattle.vehicle_assignment.specs.Laws.{IsAssignment, AssignmentKeepsRoutes}
use Rattle.vehicle_assignment.specs.Assignments.{TakenRoute, begins_with, assign_by_pins, fill_empty, or_no_route, padded, plan_of_assignment, assigned_plan, take_route, take_at, with_route}
use Rattle.vehicle_assignment.specs.declared.assignment.Assignment.{Assignment}
use Rattle.vehicle_assignment.specs.declared.faults.AssignmentFault.{AssignmentFault}
use Rattle.vehicle_assignment.proofs.FillLemmas.{stays}

some_stops : (n : ℕ) (ns : List ℕ) → eqb (length (n ∷ ns)) 0 ≡ false
some_stops n ns = ne_eqb (length (n ∷ ns)) 0 (λ e. absurd (omega (arith, e)))

abbrev is_used : List ℕ → ℕ
is_used route = cond (not (eqb (length route) 0)) 1 0

used_cons : (route : List ℕ) (routes : List (List ℕ)) → used_count (route ∷ routes) ≡ is_used route + used_count routes
used_cons route routes = sum_by-cons is_used route routes

-- ---- a sum over routes to which an empty route adds 0
module _ (f : List ℕ → ℕ) (none : f [] ≡ 0) where
  of_empty : (k : ℕ) → sum_by f (replicate k []) ≡ 0
  of_empty zero = refl
  of_empty (suc k) = let step = sum_by-cons f [] (replicate k []) in let rest = of_empty k in omega (arith, step, rest, none)

  of_used : (routes : List (List ℕ)) → sum_by f (used_routes routes) ≡ sum_by f routes
  of_used [] = refl
  of_used ([] ∷ routes) = let step = sum_by-cons f [] routes in let rest = of_used routes in omega (arith, step, rest, none)
  of_used ((n ∷ ns) ∷ routes) =
      let first : used_routes ((n ∷ ns) ∷ routes) ≡ (n ∷ ns) ∷ used_routes routes = rw (some_stops n ns) refl in
      ap (sum_by f) first
      ∙ (sum_by-cons f (n ∷ ns) (used_routes routes)
      ∙ (ap (λ k. f (n ∷ ns) + k) (of_used routes) ∙ sym (sum_by-cons f (n ∷ ns) routes)))

  -- if there are at least as many empty routes as given ones, each given route is assigned
  of_filled : (assigned routes : List (List ℕ)) → length routes + used_count assigned ≤ length assigned → sum_by f (fill_empty assigned routes) ≡ sum_by f assigned + sum_by f routes
  unfolding fill_empty
  of_filled [] [] room = refl
  of_filled [] (route ∷ routes) room = absurd (omega (arith, room))
  of_filled ([] ∷ assigned) [] room =
      let most = used-most assigned in
      let rest = of_filled assigned [] (omega (arith, most)) in
      let made = sum_by-cons f [] (fill_empty assigned []) in
      let old = sum_by-cons f [] assigned in
      omega (arith, rest, made, old, none)
  of_filled ([] ∷ assigned) (route ∷ routes) room =
      let counted = used_cons [] assigned in
      let rest = of_filled assigned routes (omega (arith, room, counted)) in
      let made = sum_by-cons f route (fill_empty assigned routes) in
      let old = sum_by-cons f [] assigned in
      let given = sum_by-cons f route routes in
      omega (arith, rest, made, old, given, none)
  of_filled ((n ∷ ns) ∷ assigned) routes room =
      let one : is_used (n ∷ ns) ≡ 1 = rw (some_stops n ns) refl in
      let counted = used_cons (n ∷ ns) assigned in
      let rest = of_filled assigned routes (omega (arith, room, counted, one)) in
      let made = ap (sum_by f) (stays (n ∷ ns) routes (some_stops n ns) assigned) ∙ sum_by-cons f (n ∷ ns) (fill_empty assigned routes) in
      let old = sum_by-cons f (n ∷ ns) assigned in
      omega (arith, rest, made, old)

-- ---- vehicles with pins
-- the route begins with the pin, and any sum over this route and the remaining ones is the sum over all routes
abbrev IsTaking : List ℕ → List (List ℕ) → TakenRoute → Type 0
IsTaking pin routes t = ((f : List ℕ → ℕ) → f [] ≡ 0 → f t.route + sum_by f t.remaining ≡ sum_by f routes) × (starts_with nat_eq t.route pin ≡ true)

-- the routes that the vehicles so far have taken begin with their pins, and any sum over these and the remaining
-- routes is the sum over all routes
record AreTaken (pins routes : List (List ℕ)) (claims : Assignment) : Type 0 where
  counted : (f : List ℕ → ℕ) → f [] ≡ 0 → sum_by f claims.assigned + sum_by f claims.remaining ≡ sum_by f routes
  assigned : length claims.assigned ≡ length pins
  pinned : begin_with_pins claims.assigned pins ≡ true

taking : (routes : List (List ℕ)) (pin : List ℕ) → IfSome (take_route pin routes) (IsTaking pin routes)
taking routes [] = ((λ f none. omega (arith, none)), refl)
taking routes (n ∷ ns) = rw (some_stops n ns) (by (position (begins_with (n ∷ ns)) routes) refl)
  where
    by : (o : Option ℕ) → position (begins_with (n ∷ ns)) routes ≡ o → IfSome (option_map (take_at routes) o) (IsTaking (n ∷ ns) routes)
    by None is = tt
    by (Some k) is =
        let at = position-Some (begins_with (n ∷ ns)) routes k [] is in
        ((λ f none. (let set = sum_by-set f routes k [] [] at.0 in omega (arith, set, none))), at.1)

module _ (v : ℕ) (pin : List ℕ) (pins routes : List (List ℕ)) where
  seat_taken : (t : TakenRoute) → IsTaking pin routes t → (r : Result Assignment AssignmentFault) → IfOk r (AreTaken pins t.remaining) → IfOk (with_route t.route r) (AreTaken (pin ∷ pins) routes)
  seat_taken t is (Ok claims) are = record {
    counted = λ f none. (
        let front = sum_by-cons f t.route claims.assigned in
        let rest = are.counted f none in
        let all = is.0 f none in
        omega (arith, front, rest, all));
    assigned = (let rest = are.assigned in omega (arith, rest));
    pinned = and_from (starts_with nat_eq t.route pin) (begin_with_pins claims.assigned pins) is.1 (are.pinned);
  }
  seat_taken t is (Err f) are = tt

  next_taken : ((remaining : List (List ℕ)) → IfOk (assign_by_pins (v + 1) pins remaining) (AreTaken pins remaining)) → (o : Option TakenRoute) → IfSome o (IsTaking pin routes)
      → IfOk (or_no_route v (λ taken. with_route taken.route (assign_by_pins (v + 1) pins taken.remaining)) o) (AreTaken (pin ∷ pins) routes)
  next_taken rest None is = tt
  next_taken rest (Some t) is = seat_taken t is (assign_by_pins (v + 1) pins t.remaining) (rest t.remaining)

are_taken : (v : ℕ) (pins routes : List (List ℕ)) → IfOk (assign_by_pins v pins routes) (AreTaken pins routes)
unfolding assign_by_pins
are_taken v [] routes = record { counted = λ f none. omega arith; assigned = refl; pinned = refl }
are_taken v (pin ∷ pins) routes = next_taken v pin pins routes (λ remaining. are_taken (v + 1) pins remaining) (take_route pin routes) (taking routes pin)

-- ---- routes for all vehicles
length_filled : (assigned routes : List (List ℕ)) → length (fill_empty assigned routes) ≡ length assigned
unfolding fill_empty
length_filled [] routes = refl
length_filled ([] ∷ assigned) routes = let rest = length_filled assigned (drop 1 routes) in omega (arith, rest)
length_filled ((n ∷ ns) ∷ assigned) routes =
    let step = ap length (stays (n ∷ ns) routes (some_stops n ns) assigned) in let rest = length_filled assigned routes in omega (arith, step, rest)

-- if an empty route begins with a pin, the pin is empty, and every route begins with it
no_pin : (route pin : List ℕ) → starts_with nat_eq [] pin ≡ true → starts_with nat_eq route pin ≡ true
no_pin route [] begins = refl
no_pin route (n ∷ ns) begins = absurd (let h : false ≡ true = begins in cc)

pins_filled : (assigned more routes pins : List (List ℕ)) → length assigned ≡ length pins → begin_with_pins assigned pins ≡ true
    → begin_with_pins (fill_empty (assigned ++ more) routes) pins ≡ true
unfolding fill_empty
pins_filled assigned more routes [] same begin = refl
pins_filled [] more routes (pin ∷ pins) same begin = absurd (omega (arith, same))
pins_filled ([] ∷ assigned) more routes (pin ∷ pins) same begin =
    let both = and_parts (starts_with nat_eq [] pin) (begin_with_pins assigned pins) begin in
    and_from (starts_with nat_eq _ pin) (begin_with_pins (fill_empty (assigned ++ more) (drop 1 routes)) pins) (no_pin _ pin both.0)
    (pins_filled assigned more (drop 1 routes) pins (omega (arith, same)) both.1)
pins_filled ((n ∷ ns) ∷ assigned) more routes (pin ∷ pins) same begin =
    let both = and_parts (starts_with nat_eq (n ∷ ns) pin) (begin_with_pins assigned pins) begin in
    subst (λ all. begin_with_pins all (pin ∷ pins) ≡ true) (sym (stays (n ∷ ns) routes (some_stops n ns) (assigned ++ more)))
    (and_from (starts_with nat_eq (n ∷ ns) pin) (begin_with_pins (fill_empty (assigned ++ more) routes) pins) both.0
    (pins_filled assigned more routes pins (omega (arith, same)) both.1))

-- ---- vehicles without pins
module _ (fleet : ℕ) (pins routes : List (List ℕ)) (few : length pins ≤ fleet) (used : used_count routes ≤ fleet) where
  claims_seated : (claims : Assignment) → AreTaken pins routes claims → IsAssignment fleet pins routes (fill_empty (padded fleet claims.assigned) (used_routes claims.remaining))
  claims_seated claims taken = record {
    counted = λ f none. (
        let made = of_filled f none (padded fleet claims.assigned) (used_routes claims.remaining) room in
        let front = sum_by-append f claims.assigned (replicate (fleet - length claims.assigned) []) in
        let following = of_empty f none (fleet - length claims.assigned) in
        let remaining = of_used f none claims.remaining in
        let whole = taken.counted f none in
        omega (arith, made, front, following, remaining, whole));
    all = length_filled (padded fleet claims.assigned) (used_routes claims.remaining) ∙ as_many;
    pinned = pins_filled claims.assigned (replicate (fleet - length claims.assigned) []) (used_routes claims.remaining) pins (taken.assigned) (taken.pinned);
  }
    where
      as_many : length (padded fleet claims.assigned) ≡ fleet
      as_many =
          let joined = length-append claims.assigned (replicate (fleet - length claims.assigned) []) in
          let following = length-replicate {A = List ℕ} (fleet - length claims.assigned) [] in
          let front = taken.assigned in
          omega (arith, joined, following, front, few)

      room : length (used_routes claims.remaining) + used_count (padded fleet claims.assigned) ≤ length (padded fleet claims.assigned)
      room =
          let remaining : length (used_routes claims.remaining) ≡ used_count claims.remaining = length-filter (λ route. not (length route == 0)) claims.remaining in
          let whole : used_count claims.assigned + used_count claims.remaining ≡ used_count routes = taken.counted is_used refl in
          let joined : used_count (padded fleet claims.assigned) ≡ used_count claims.assigned + used_count (replicate (fleet - length claims.assigned) []) =
          sum_by-append is_used claims.assigned (replicate (fleet - length claims.assigned) []) in
          let following : used_count (replicate (fleet - length claims.assigned) []) ≡ 0 = of_empty is_used refl (fleet - length claims.assigned) in
          omega (arith, remaining, whole, joined, following, as_many, used)

  all_seated : (r : Result Assignment AssignmentFault) → IfOk r (AreTaken pins routes) → IfOk (plan_of_assignment fleet r) (λ plan. IsAssignment fleet pins routes plan.routes)
  all_seated (Ok claims) taken = claims_seated claims taken
  all_seated (Err f) taken = tt

  pub are_seated : (plan : Plan) → assigned_plan fleet pins routes ≡ Ok plan → IsAssignment fleet pins routes plan.routes
  are_seated plan is =
      subst (λ r. IfOk r (λ (plan : Plan). IsAssignment fleet pins routes plan.routes)) is (all_seated (assign_by_pins 1 pins routes) (are_taken 1 pins routes))

pub assignment_keeps_routes : AssignmentKeepsRoutes
assignment_keeps_routes fleet pins routes plan few used is = are_seated fleet pins routes few used plan is
