-- Tours of a draft without some requests.
use Rattle.std.proofs.Common.{◌≡◌, ◌∙◌, ◌+◌, ◌<◌, ℕ, List, All, true, filter, not, Option, length, get_or, refl, sym, ap, subst, arith}
use Rattle.std.specs.List.{list_all}
use Rattle.std.specs.Prelude.{IfSome}
use Rattle.std.specs.Option.{option_map}
use Rattle.std.proofs.lemmas.List.{get_or-map, length-map}
use Rattle.std.proofs.lemmas.List.Elements.{All-get_or}
use Rattle.plan_types.specs.Instance.{Instance}
use Rattle.plan_types.specs.Laws.{NamedRequestsAreFound, RequestsAreStoredByName}
use Rattle.plan_types.specs.declared.plans.Cost.{Cost}
use Rattle.route_sched.specs.Cost.{unplanned_count}
use Rattle.route_sched.specs.Route.{AreDistinctStops, IsPlan}
use Rattle.slack_tables.specs.Course.{Course}
use Rattle.plan_audit.specs.Locality.{PassingIsLocal, PlansAreDisjointRoutes, FeasibleAloneDecidesFeasibility}
use Rattle.plan_audit.specs.Passes.{feasible_alone}
use Rattle.plan_audit.specs.Laws.{KeepsPins}
use Rattle.move_ops.specs.Changes.{changes_of, distinct_count, removals, with_routes, AreChanges, AreIn, AreVehiclesOf, IsRemoval}
use Rattle.move_ops.specs.Drafts.{DraftState, draft_of, IsDraftOf}
use Rattle.move_ops.specs.Insertion.{route_of}
use Rattle.move_ops.specs.Moves.{is_movable_name, is_of_named, removed, without_named}
use Rattle.move_ops.specs.WholePairs.{are_paired}
use Rattle.move_ops.specs.declared.changes.Change.{Change}
use Rattle.move_ops.proofs.ApplyLemmas.{changes_distinct, judge, made}
use Rattle.move_ops.proofs.PlanChangeLemmas.{said_feasible}
use Rattle.move_ops.proofs.ChangeListLemmas.{all_changes}
use Rattle.move_ops.proofs.VehicleListLemmas.{change_at, named_changes}
use Rattle.move_ops.proofs.KeptStopLemmas.{left_paired}
use Rattle.move_ops.proofs.LeftOutLemmas.{taken_out}
use Rattle.move_ops.proofs.PlanRemovalLemmas.{left_plan, left_pinned, left_once, removed_is}
use Rattle.move_ops.proofs.ReplacementLemmas.{parts}
use Rattle.move_ops.proofs.TourLemmas.{RemovalResult, removed_routes, removal}

-- facts about the next vehicle's route without these requests
module _ (p : Instance) (names : List ℕ) (routes : List (List ℕ)) (vs : List ℕ) (k : ℕ) (test : k < length vs) where
  abbrev pub left_of : List ℕ → List ℕ
  left_of route = filter (λ n. not (is_of_named p names n)) route

  abbrev pub next : Change
  next = record { vehicle = get_or vs k 0; route = left_of (route_of routes (get_or vs k 0)) }

  pub next_below : k < length (removals p names routes vs)
  next_below = let long = length-map vs (change_at left_of routes) in omega arith

  pub next_at : next ≡ get_or (removals p names routes vs) k next
  next_at = sym (get_or-map (change_at left_of routes) vs k 0 next test)

  pub next_has : (P : List ℕ → Type 0) → All (λ c. P c.route) (removals p names routes vs) → (route : List ℕ)
      → route ≡ left_of (route_of routes (get_or vs k 0)) → P route
  next_has P all route is =
      subst P (sym is)
      (subst (λ (y : Change). P y.route) (sym next_at)
      (All-get_or (λ (y : Change). P y.route) (removals p names routes vs) k next next_below all))

module _ (found : NamedRequestsAreFound) (stored : RequestsAreStoredByName) (local : PassingIsLocal) (plans : PlansAreDisjointRoutes)
    (says : FeasibleAloneDecidesFeasibility) (p : Instance) (pins : List (List ℕ)) (d : DraftState) (is : IsDraftOf p pins d)
    (names : List ℕ) (movable : list_all (is_movable_name p pins (draft_of d)) names ≡ true) (vehicles vs : List ℕ) (same : vs ≡ vehicles)
    (within : AreIn (draft_of d) vehicles) (all_found : AreVehiclesOf (draft_of d) (λ n. is_of_named p names n ≡ true) vehicles) where
  abbrev others : List (List ℕ)
  others = without_named p names (draft_of d)

  abbrev cs : List Change
  cs = removals p names (draft_of d) vs

  pub are : AreChanges (draft_of d) others cs
  are =
      named_changes p names (draft_of d) vs (subst (AreIn (draft_of d)) (sym same) within)
      (subst (AreVehiclesOf (draft_of d) (λ n. is_of_named p names n ≡ true)) (sym same) all_found)

  plan : IsPlan p others
  plan = left_plan stored local plans says p pins (draft_of d) is.valid is.draft names movable

  pinned : KeepsPins others pins
  pinned = left_pinned stored local plans says p pins (draft_of d) is.valid is.draft names movable

  once : All (AreDistinctStops p) others
  once = left_once stored local plans says p pins (draft_of d) is.valid is.draft names movable

  long : length others ≡ length (draft_of d)
  long = length-map (draft_of d) (filter (λ m. not (is_of_named p names m)))

  pub removals_once : All (λ c. AreDistinctStops p c.route) (removals p names (draft_of d) vs)
  removals_once = changes_distinct local says p pins d is others plan once pinned long cs are

  pub removals_paired : All (λ c. are_paired p c.route ≡ true) (removals p names (draft_of d) vs)
  removals_paired =
      let feasible = said_feasible local says p pins (draft_of d) is.draft (draft_of d) ((parts local p pins (draft_of d) is.draft).feasible) in
      all_changes (draft_of d) others cs are long (λ route. are_paired p route ≡ true) (left_paired found stored p is.valid names (draft_of d) feasible)

  module _ {V : Type 0} (items : V → List (ℕ × Course)) where
    pub removal_routes : (o : Option V) → RemovalResult items p (draft_of d) others cs (list_all (λ (c : Change). feasible_alone p c.route) cs) are.plan o
        → option_map (λ ts. with_routes (draft_of d) (changes_of (items ts))) o ≡ removed p pins (draft_of d) names
    removal_routes =
        removed_routes items p (draft_of d) others cs (list_all (λ (c : Change). feasible_alone p c.route) cs) are.plan (removed p pins (draft_of d) names)
        (λ b e. sym (removed_is stored local plans says p pins (draft_of d) is.valid is.draft names movable b
        (e ∙ judge local says p pins d is others plan once pinned long cs are)))

    pub removal_tours : (o : Option V) → RemovalResult items p (draft_of d) others cs (list_all (λ (c : Change). feasible_alone p c.route) cs) are.plan o
        → IfSome o (λ ts. IsRemoval p pins (draft_of d) names d.cost.unplanned (items ts))
    removal_tours =
        let cost = ap (λ (k : Cost). k.unplanned) is.cost in
        let taken = taken_out found stored p is.valid (draft_of d) pins names movable in
        let count : ◌≡◌ {A = ℕ} (d.cost.unplanned + distinct_count names) (unplanned_count p others) = omega arith in
        removal items p (draft_of d) others cs (list_all (λ (c : Change). feasible_alone p c.route) cs) are.plan pins names d.cost.unplanned refl
        (λ t. made local says p pins d is others plan once pinned long cs are (d.cost.unplanned + distinct_count names) count t)
