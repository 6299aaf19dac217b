-- A solution that passes as printed also passes as a plan, at the same cost, once vehicles are assigned to its
-- routes.
use Rattle.std.proofs.Common.{◌≡◌, ℕ, suc, ◌+◌, ◌≤◌, ◌&&◌, ◌||◌, Bool, true, false, cond, not, eqb, nat_eq, List, [], ◌∷◌, length, Option, Some, None, is_some}
use Rattle.std.proofs.Common.{refl, sym, ap, subst, ◌∙◌, inl, inr, arith}
use Rattle.std.specs.List.{AllByRecursion, IsDistinct, concat, count_by, list_all, list_any, sum_by}
use Rattle.std.proofs.lemmas.Bool.{and_from, and_parts, eq-eqb, ne_eqb}
use Rattle.std.proofs.lemmas.Bool.Decides.{eqb_tells}
use Rattle.std.proofs.lemmas.List.Sums.{list_all-from_AllPass, sum_by-append, sum_by-cons}
use Rattle.plan_types.specs.Instance.{Instance, stop_at}
use Rattle.plan_types.specs.Request.{stops_of}
use Rattle.plan_types.specs.declared.plans.Cost.{Cost}
use Rattle.plan_types.specs.declared.requests.Kind.{Kind}
use Rattle.plan_types.specs.declared.requests.Kind.TheVariants.{LiLim, Vrp}
use Rattle.route_sched.specs.Cost.{cost_of, has_stop, total_length, unplanned_count, used_count, vehicle_count}
use Rattle.route_sched.specs.Route.{IsPlan}
use Rattle.route_sched.specs.Schedule.{route_length}
use Rattle.route_sched.proofs.Steps.{route_length-nil}
use Rattle.plan_audit.specs.FirstFault.{first_route_beyond}
use Rattle.plan_audit.specs.Passes.{are_distinct, are_distinct_stops, begin_with_pins, feasible_alone, has, keeps_times, passes}
use Rattle.plan_audit.specs.Verdict.{IsVerdict, KeepsRules, planned, printed}
use Rattle.plan_audit.specs.declared.rules.Rule.TheVariants.{Fleet}
use Rattle.plan_audit.specs.declared.rules.Verdict.TheVariants.{Pass}
use Rattle.plan_audit.proofs.FleetLemmas.{fleet_found, used-within}
use Rattle.plan_audit.proofs.LawProofs.{passes_are_plans, routes_are_feasible}
use Rattle.plan_audit.proofs.LocalLemmas.{passes_decides_the_verdict}
use Rattle.plan_audit.proofs.TestLemmas.{feasible_alone_decides_feasibility, true_all}
use Rattle.vehicle_assignment.specs.Laws.{IsAssignment, AssignedPlansPass}
use Rattle.vehicle_assignment.proofs.AssignedLemmas.{are_seated}

-- ---- tests of all items, by counting those that fail
module _ {X : Type 0} (test : X → Bool) where
  abbrev fails : X → ℕ
  fails x = cond (test x) 0 1

  none_fails : (xs : List X) → list_all test xs ≡ true → sum_by fails xs ≡ 0
  none_fails [] all = refl
  none_fails (x ∷ xs) all =
      let both = and_parts (test x) (list_all test xs) all in
      let step = sum_by-cons fails x xs in
      let here : fails x ≡ 0 = rw both.0 refl in
      let rest = none_fails xs both.1 in
      omega (arith, step, here, rest)

  all_pass : (xs : List X) → sum_by fails xs ≡ 0 → list_all test xs ≡ true
  all_pass [] none = refl
  all_pass (x ∷ xs) none = and_from (test x) (list_all test xs) (here (test x) refl) (all_pass xs (omega (arith, none, step)))
    where
      step : sum_by fails (x ∷ xs) ≡ fails x + sum_by fails xs
      step = sum_by-cons fails x xs

      here : (b : Bool) → test x ≡ b → test x ≡ true
      here true is = is
      here false is = (let one : fails x ≡ 1 = rw is refl in absurd (omega (arith, one, step, none)))

-- ---- the number of times that a number occurs in a list
abbrev times : ℕ → List ℕ → ℕ
times n ns = count_by (nat_eq n) ns

abbrev one_if : ℕ → ℕ → ℕ
one_if n m = cond (nat_eq n m) 1 0

any_by_times : (n : ℕ) (ns : List ℕ) → list_any (nat_eq n) ns ≡ not (eqb (times n ns) 0)
any_by_times n [] = refl
any_by_times n (m ∷ ns) = by (nat_eq n m) refl (any_by_times n ns)
  where
    step : times n (m ∷ ns) ≡ one_if n m + times n ns
    step = sum_by-cons (one_if n) m ns

    by : (b : Bool) → nat_eq n m ≡ b → list_any (nat_eq n) ns ≡ not (eqb (times n ns) 0) → list_any (nat_eq n) (m ∷ ns) ≡ not (eqb (times n (m ∷ ns)) 0)
    by true is rest =
        let one : one_if n m ≡ 1 = rw is refl in
        ap (λ b. b || list_any (nat_eq n) ns) is ∙ sym (ap not (ne_eqb (times n (m ∷ ns)) 0 (λ e. absurd (omega (arith, e, step, one)))))
    by false is rest =
        let none : one_if n m ≡ 0 = rw is refl in
        let same : times n ns ≡ times n (m ∷ ns) = omega (arith, step, none) in
        ap (λ b. b || list_any (nat_eq n) ns) is ∙ rest ∙ ap (λ k. not (eqb k 0)) same

none_of : (n : ℕ) (ns : List ℕ) → AllByRecursion (λ m. nat_eq n m ≡ false) ns → times n ns ≡ 0
none_of n [] apart = refl
none_of n (m ∷ ns) apart =
    let step = sum_by-cons (one_if n) m ns in
    let here : one_if n m ≡ 0 = rw apart.0 refl in
    let rest = none_of n ns apart.1 in
    omega (arith, step, here, rest)

at_most_once : (ns : List ℕ) → IsDistinct nat_eq ns → (n : ℕ) → times n ns ≤ 1
unfolding IsDistinct
at_most_once [] distinct n = omega arith
at_most_once (m ∷ ns) distinct n = elim (eqb_tells n m) [
  | inl t ↦ (
      let step = sum_by-cons (one_if n) m ns in
      let here : one_if n m ≡ 1 = rw t.0 refl in
      let rest : times n ns ≡ 0 = subst (λ k. times k ns ≡ 0) (sym t.1) (none_of m ns distinct.0) in
      omega (arith, step, here, rest))
  | inr t ↦ (
      let step = sum_by-cons (one_if n) m ns in
      let here : one_if n m ≡ 0 = rw t.0 refl in
      let rest = at_most_once ns distinct.1 n in
      omega (arith, step, here, rest))
]

distinct_from : (ns : List ℕ) → ((n : ℕ) → times n ns ≤ 1) → are_distinct ns ≡ true
distinct_from [] few = refl
distinct_from (m ∷ ns) few =
    and_from (not (has ns m)) (are_distinct ns) (ap not (any_by_times m ns ∙ ap (λ k. not (eqb k 0)) none))
    (distinct_from ns (λ n. (let step = sum_by-cons (one_if n) m ns in let all = few n in omega (arith, step, all))))
  where
    none : times m ns ≡ 0
    none =
        let step = sum_by-cons (one_if m) m ns in
        let here : one_if m m ≡ 1 = rw (eq-eqb m m refl) refl in
        let all = few m in
        omega (arith, step, here, all)

of_joined : (g : ℕ → ℕ) (lists : List (List ℕ)) → sum_by g (concat lists) ≡ sum_by (sum_by g) lists
of_joined g [] = refl
of_joined g (ns ∷ lists) =
    sum_by-append g ns (concat lists) ∙ (ap (λ k. sum_by g ns + k) (of_joined g lists) ∙ sym (sum_by-cons (sum_by g) ns lists))

-- ---- equal counts make equal costs
abbrev cost : ℕ → ℕ → ℕ → Cost
cost u v d = record { unplanned = u; vehicles = v; distance = d }

-- an empty route is feasible alone
empty_feasible : (p : Instance) → feasible_alone p [] ≡ true
unfolding feasible_alone
empty_feasible p = by p.kind
  where
    by : (kind : Kind) → keeps_times kind p [] ≡ true
    by LiLim = refl
    by Vrp = refl

module _ (p : Instance) (pins routes assigned : List (List ℕ)) (are : IsAssignment p.fleet pins routes assigned) where
  of_numbers : (g : ℕ → ℕ) → sum_by g (concat assigned) ≡ sum_by g (concat routes)
  of_numbers g = of_joined g assigned ∙ (are.counted (sum_by g) refl ∙ sym (of_joined g routes))

  stop_same : (n : ℕ) → has_stop assigned n ≡ has_stop routes n
  stop_same n = any_by_times n (concat assigned) ∙ (ap (λ k. not (eqb k 0)) (of_numbers (one_if n)) ∙ sym (any_by_times n (concat routes)))

  unplanned_same : unplanned_count p assigned ≡ unplanned_count p routes
  unplanned_same =
      let each : (λ (n : ℕ). has_stop assigned n) ≡ (λ (n : ℕ). has_stop routes n) = λ i n. stop_same n i in
      ap (λ (f : ℕ → Bool). count_by (λ e. not (list_any (λ s. f s.number) (stops_of e.1))) p.requests) each

  vehicles_same : (kind : Kind) → vehicle_count kind assigned ≡ vehicle_count kind routes
  vehicles_same LiLim = are.counted (λ route. cond (not (eqb (length route) 0)) 1 0) refl
  vehicles_same Vrp = refl

  cost_same : cost_of p assigned ≡ cost_of p routes
  cost_same =
      ap (λ u. cost u (vehicle_count p.kind assigned) (total_length p assigned)) unplanned_same
      ∙ (ap (λ v. cost (unplanned_count p routes) v (total_length p assigned)) (vehicles_same p.kind)
      ∙ ap (λ d. cost (unplanned_count p routes) (vehicle_count p.kind routes) d) (are.counted (route_length p) (route_length-nil p)))

  live_once : IsPlan p routes → are_distinct_stops p (concat assigned) ≡ true
  live_once plan =
      and_from (list_all (λ n. is_some (stop_at p n)) (concat assigned)) (are_distinct (concat assigned))
      (all_pass (λ n. is_some (stop_at p n)) (concat assigned)
      (of_numbers (fails (λ n. is_some (stop_at p n)))
      ∙ none_fails (λ n. is_some (stop_at p n)) (concat routes) (list_all-from_AllPass (λ n. is_some (stop_at p n)) (concat routes) (plan.live))))
      (distinct_from (concat assigned) (λ n. (
      let same : times n (concat assigned) ≡ times n (concat routes) = of_numbers (one_if n) in
      let once = at_most_once (concat routes) (plan.distinct) n in
      omega (arith, same, once))))

  feasible : list_all (feasible_alone p) routes ≡ true → list_all (feasible_alone p) assigned ≡ true
  feasible all =
      let none : fails (feasible_alone p) [] ≡ 0 = rw (empty_feasible p) refl in
      all_pass (feasible_alone p) assigned (are.counted (fails (feasible_alone p)) none ∙ none_fails (feasible_alone p) routes all)

  seats_pass : IsPlan p routes → list_all (feasible_alone p) routes ≡ true → passes p pins assigned ≡ true
  unfolding passes
  seats_pass plan all =
      and_from (are_distinct_stops p (concat assigned)) (eqb (length assigned) p.fleet && (list_all (feasible_alone p) assigned && begin_with_pins assigned pins)) (live_once plan)
      (and_from (eqb (length assigned) p.fleet) (list_all (feasible_alone p) assigned && begin_with_pins assigned pins) (eq-eqb (length assigned) p.fleet (are.all))
      (and_from (list_all (feasible_alone p) assigned) (begin_with_pins assigned pins) (feasible all) (are.pinned)))

-- ---- a solution that passes as printed
module _ (p : Instance) (routes : List (List ℕ)) (distance : ℕ) (cost : Cost) (is : IsVerdict p (printed routes distance) (Pass cost)) where
  within_fleet : used_count routes ≤ p.fleet
  within_fleet = by (first_route_beyond p.fleet 0 routes) refl
    where
      by : (o : Option ℕ) → first_route_beyond p.fleet 0 routes ≡ o → used_count routes ≤ p.fleet
      by None e = used-within p.fleet 0 routes e
      by (Some m) e = absurd (is.0 Fleet (suc m) 0 0 (omega arith) (omega arith) (fleet_found p routes m e).broken)

  all_feasible : list_all (feasible_alone p) routes ≡ true
  all_feasible = true_all (feasible_alone p) routes (λ k route at. (feasible_alone_decides_feasibility p route).1 (routes_are_feasible p (printed routes distance) kept (suc k) route at))
    where
      kept : KeepsRules 3 8 p (printed routes distance)
      kept rule r i n from to b = is.0 rule r i n (omega (arith, from)) (omega (arith, to)) b

pub assigned_plans_pass : AssignedPlansPass
assigned_plans_pass p pins routes distance cost plan few is assigned =
    let are = are_seated p.fleet pins routes few (within_fleet p routes distance cost is) plan assigned in
    let tested = seats_pass p pins routes plan.routes are (passes_are_plans p (printed routes distance) cost is).0 (all_feasible p routes distance cost is) in
    subst (λ c. IsVerdict p (planned plan.routes pins) (Pass c)) (cost_same p pins routes plan.routes are ∙ sym is.1)
    ((passes_decides_the_verdict p pins plan.routes).0 tested)
