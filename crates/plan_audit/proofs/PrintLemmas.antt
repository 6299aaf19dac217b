-- A plan without its empty routes.
use Rattle.std.proofs.Common.{◌≡◌, ℕ, ◌+◌, ◌≤◌, Bool, true, false, cond, not, ◌||◌, List, [], ◌∷◌, ◌++◌, All, length, Some, refl, sym, ap, subst, ◌∙◌, inl, inr, arith, eqb, nat_eq}
use Rattle.std.specs.List.{concat, list_any}
use Rattle.std.specs.Map.{lookup}
use Rattle.std.specs.Prelude.{count_by, sum_by}
use Rattle.std.proofs.lemmas.Bool.{ne_eqb, or_cases}
use Rattle.std.proofs.lemmas.Bool.Decides.{eqb_tells}
use Rattle.std.proofs.lemmas.List.Elements.{All-filter}
use Rattle.std.proofs.lemmas.List.Sums.{sum_by-cons}
use Rattle.std.proofs.lemmas.Option.{same_Some}
use Rattle.plan_types.specs.Instance.{Instance}
use Rattle.plan_types.specs.Laws.{NamedRequestsAreFound, RequestsAreStoredByName}
use Rattle.plan_types.specs.Request.{stops_of}
use Rattle.plan_types.specs.declared.plans.Cost.{Cost}
use Rattle.plan_types.specs.declared.requests.Kind.{Kind}
use Rattle.plan_types.specs.declared.requests.Kind.TheVariants.{LiLim, Vrp}
use Rattle.plan_types.specs.declared.requests.Request.{Request}
use Rattle.plan_types.specs.declared.requests.Request.TheVariants.{Single, Pair}
use Rattle.route_sched.specs.Route.{AreDistinctStops, IsPlan}
use Rattle.route_sched.specs.Cost.{cost_of, has_stop, is_planned, total_length, unplanned_count, used_count, vehicle_count, used_routes}
use Rattle.route_sched.specs.Schedule.{route_length}
use Rattle.route_sched.proofs.Steps.{route_length-nil}
use Rattle.plan_audit.specs.Alone.{IsFeasibleAlone}
use Rattle.plan_audit.specs.Laws.{AreAllPlanned, IsPlanned}
use Rattle.plan_audit.specs.Locality.{IsPassing}
use Rattle.plan_audit.specs.Printing.{UsedRoutesAreSound, WholePlansPassPrinted}
use Rattle.plan_audit.specs.Verdict.{KeepsRules, planned, printed}
use Rattle.plan_audit.specs.declared.rules.Rule.TheVariants.{MissingStop, Fleet, Pin, PrintedCost}
use Rattle.plan_audit.proofs.FirstLemmas.{none_some}
use Rattle.plan_audit.proofs.FleetLemmas.{none_beyond, used-most}
use Rattle.plan_audit.proofs.LawProofs as laws
use Rattle.plan_audit.proofs.LocalLemmas.{all_items, items_all, kept_rules, live_seat, once_seat, passing_is_local}
use Rattle.plan_audit.proofs.ServedLemmas.{a_seat}
use Rattle.plan_audit.proofs.SoundLemmas.{keeps_from, keeps_partners, sound_from}
use Rattle.plan_audit.proofs.StepLemmas.{pass_step, plan_from}

-- ---- lists of routes without the empty ones
used-first : (n : ℕ) (ns : List ℕ) (routes : List (List ℕ)) → used_routes ((n ∷ ns) ∷ routes) ≡ (n ∷ ns) ∷ used_routes routes
used-first n ns routes = rw (ne_eqb (length (n ∷ ns)) 0 (λ e. absurd (omega (arith, e)))) refl

concat-used : (routes : List (List ℕ)) → concat (used_routes routes) ≡ concat routes
concat-used [] = refl
concat-used ([] ∷ routes) = concat-used routes
concat-used ((n ∷ ns) ∷ routes) = ap concat (used-first n ns routes) ∙ ap (λ later. (n ∷ ns) ++ later) (concat-used routes)

-- a sum in which an empty route counts 0
sum-used : (f : List ℕ → ℕ) → f [] ≡ 0 → (routes : List (List ℕ)) → sum_by f (used_routes routes) ≡ sum_by f routes
sum-used f none [] = refl
sum-used f none ([] ∷ routes) = let step = sum_by-cons f [] routes in let rest = sum-used f none routes in omega (arith, step, rest, none)
sum-used f none ((n ∷ ns) ∷ routes) =
    ap (sum_by f) (used-first n ns routes)
    ∙ (sum_by-cons f (n ∷ ns) (used_routes routes)
    ∙ (ap (λ k. f (n ∷ ns) + k) (sum-used f none routes) ∙ sym (sum_by-cons f (n ∷ ns) routes)))

used_count-used : (routes : List (List ℕ)) → used_count (used_routes routes) ≡ used_count routes
used_count-used routes = sum-used (λ route. cond (not (eqb (length route) 0)) 1 0) refl routes

total-used : (p : Instance) (routes : List (List ℕ)) → total_length p (used_routes routes) ≡ total_length p routes
total-used p routes = sum-used (route_length p) (route_length-nil p) routes

unplanned-used : (p : Instance) (routes : List (List ℕ)) → unplanned_count p (used_routes routes) ≡ unplanned_count p routes
unplanned-used p routes = ap (λ ns. count_by (λ e. not (list_any (λ s. list_any (nat_eq s.number) ns) (stops_of e.1))) p.requests) (concat-used routes)

vehicles-used : (kind : Kind) (routes : List (List ℕ)) → vehicle_count kind (used_routes routes) ≡ vehicle_count kind routes
vehicles-used LiLim routes = used_count-used routes
vehicles-used Vrp routes = refl

abbrev cost : ℕ → ℕ → ℕ → Cost
cost u v d = record { unplanned = u; vehicles = v; distance = d }

cost-used : (p : Instance) (routes : List (List ℕ)) → cost_of p (used_routes routes) ≡ cost_of p routes
cost-used p routes =
    ap (λ u. cost u (vehicle_count p.kind (used_routes routes)) (total_length p (used_routes routes))) (unplanned-used p routes)
    ∙ (ap (λ v. cost (unplanned_count p routes) v (total_length p (used_routes routes))) (vehicles-used p.kind routes)
    ∙ ap (λ d. cost (unplanned_count p routes) (vehicle_count p.kind routes) d) (total-used p routes))

-- ---- if no request is unplanned, each is planned
pub is_there : (routes : List (List ℕ)) (request : Request) → is_planned routes request ≡ true → IsPlanned routes request
is_there routes (Single s) e = elim (or_cases (has_stop routes s.number) false e) [
  | inl t ↦ a_seat routes s.number t
  | inr t ↦ (let g : false ≡ true = t in absurd cc)
]
is_there routes (Pair a b) e = elim (or_cases (has_stop routes a.number) (has_stop routes b.number || false) e) [
  | inl t ↦ inl (a_seat routes a.number t)
  | inr t ↦ elim (or_cases (has_stop routes b.number) false t) [
    | inl u ↦ inr (a_seat routes b.number u)
    | inr u ↦ (let g : false ≡ true = u in absurd cc)
  ]
]

-- 1 for an unplanned request, else 0
abbrev left : List (List ℕ) → ℕ × Request → ℕ
left routes e = cond (not (is_planned routes e.1)) 1 0

none_left : (routes : List (List ℕ)) (es : List (ℕ × Request)) → count_by (λ e. not (is_planned routes e.1)) es ≡ 0 → (name : ℕ) (request : Request)
    → lookup (nat_eq name) es ≡ Some request → is_planned routes request ≡ true
none_left routes [] none name request at = absurd (none_some request at)
none_left routes (e ∷ es) none name request at =
    elim (eqb_tells name e.0) [
      | inl t ↦ subst (λ r. is_planned routes r ≡ true) (same_Some e.1 request (let h : lookup (nat_eq name) (e ∷ es) ≡ Some request = at in rw t.0 at h))
          (here (is_planned routes e.1) refl)
      | inr t ↦ none_left routes es (omega (arith, step, none)) name request (let h : lookup (nat_eq name) (e ∷ es) ≡ Some request = at in rw t.0 at h)
    ]
  where
    step : count_by (λ e. not (is_planned routes e.1)) (e ∷ es) ≡ left routes e + count_by (λ e. not (is_planned routes e.1)) es
    step = sum_by-cons (left routes) e es

    here : (b : Bool) → is_planned routes e.1 ≡ b → is_planned routes e.1 ≡ true
    here true is = is
    here false is = (let one : left routes e ≡ 1 = rw is refl in absurd (omega (arith, step, none, one)))

all_planned : (p : Instance) (routes : List (List ℕ)) → unplanned_count p routes ≡ 0 → AreAllPlanned p routes
all_planned p routes none name request at = is_there routes request (none_left routes p.requests none name request at)

-- ---- the rules
module _ (p : Instance) (routes : List (List ℕ)) (plan : IsPlan p routes) (feasible : All (IsFeasibleAlone p) routes) where
  used_plan : IsPlan p (used_routes routes)
  used_plan = subst (AreDistinctStops p) (sym (concat-used routes)) plan

  used_feasible : All (IsFeasibleAlone p) (used_routes routes)
  used_feasible = All-filter (λ route. not (eqb (length route) 0)) (IsFeasibleAlone p) routes feasible

  used_kept : KeepsRules 1 8 p (planned (used_routes routes) [])
  used_kept =
      kept_rules p (used_routes routes) [] (once_seat p (used_routes routes) used_plan) (live_seat p (used_routes routes) used_plan)
      (λ r route at. all_items (IsFeasibleAlone p) (used_routes routes) used_feasible r route at)

  -- if each request is planned, the printed form of the plan keeps rules 1 to 8
  printed_kept : (cost : ℕ) → AreAllPlanned p (used_routes routes) → KeepsRules 1 8 p (printed (used_routes routes) cost)
  printed_kept cost all MissingStop r i n from to (inl b) = used_kept MissingStop r i n from to b
  printed_kept cost all MissingStop r i n from to (inr b) = laws.is_planned p (used_routes routes) all n b.1
  printed_kept cost all Fleet r i n from to b = omega arith
  printed_kept cost all Pin r i n from to b = omega arith
  printed_kept cost all PrintedCost r i n from to b = omega arith
  printed_kept cost all rule r i n from to b = used_kept rule r i n from to b

pub used_routes_are_sound : RequestsAreStoredByName → NamedRequestsAreFound → UsedRoutesAreSound
used_routes_are_sound by_name found p routes valid sound =
    sound_from found p (planned (used_routes routes) []) valid (used_kept p routes (plan_from p (planned routes []) kept) feasible)
  where
    kept : KeepsRules 1 8 p (planned routes [])
    kept = keeps_from by_name p valid (planned routes []) sound (keeps_partners by_name p valid (planned routes []) sound)

    feasible : All (IsFeasibleAlone p) routes
    feasible =
        items_all (IsFeasibleAlone p) routes
        (λ r route at. laws.routes_are_feasible p (planned routes []) (λ k q i n from to b. kept k q i n (omega arith) to b) r route at)

pub whole_plans_pass_printed : WholePlansPassPrinted
whole_plans_pass_printed p pins routes test none = (
  pass_step p (used_routes routes) (total_length p routes) kept (none_beyond p (used_routes routes) few) (sym (total-used p routes)),
  sym (cost-used p routes),
)
  where
    passing : IsPassing p pins routes
    passing = (passing_is_local p pins routes).0 test

    kept : KeepsRules 1 8 p (printed (used_routes routes) (total_length p routes))
    kept = printed_kept p routes passing.plan passing.feasible (total_length p routes) (all_planned p (used_routes routes) (unplanned-used p routes ∙ none))

    few : used_count (used_routes routes) ≤ p.fleet
    few = omega (arith, used_count-used routes, used-most routes, passing.fleet)
