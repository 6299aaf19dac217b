-- The plan of a text, from its solution and verdict.
use Rattle.std.proofs.Common.{◌≡◌, ◌⊎◌, ℕ, ◌+◌, List, [], ◌∷◌, Option, Some, None, Result, Ok, Err, refl, sym, ap, subst, ◌∙◌, inl, inr}
use Rattle.plan_types.specs.Instance.{Instance}
use Rattle.plan_types.specs.declared.plans.Cost.{Cost}
use Rattle.plan_types.specs.declared.plans.Plan.{Plan}
use Rattle.sol_text.specs.Faults.{IsFirstFault, out_of_memory}
use Rattle.sol_text.specs.declared.faults.SolFault.{SolFault}
use Rattle.sol_text.specs.declared.faults.SolFaultKind.{SolFaultKind}
use Rattle.sol_text.specs.declared.faults.SolFaultKind.TheVariants as sol
use Rattle.plan_types.specs.declared.solutions.Solution.{Solution}
use Rattle.plan_audit.specs.declared.rules.Verdict.TheVariants as verdict
use Rattle.vehicle_assignment.specs.Faults.{by_kind, fault_from}
use Rattle.vehicle_assignment.specs.AssignedPlan.{Gives, IsAudited, IsFoundOrOutOfMemory}
use Rattle.vehicle_assignment.specs.Assignments.{TakenRoute, assign_by_pins, or_no_route, plan_of_assignment, assigned_plan, take_route, with_route}
use Rattle.vehicle_assignment.specs.declared.assignment.Assignment.{Assignment}
use Rattle.vehicle_assignment.specs.declared.faults.AssignmentFault.{AssignmentFault}
use Rattle.vehicle_assignment.specs.declared.faults.AssignmentFault.TheVariants.{PinWithoutRoute}

IsPinned : AssignmentFault → Type 0
IsPinned f = (v : ℕ) × (f ≡ PinWithoutRoute v)

-- the only fault of an assignment is a pin that finds no route
PinnedOnly : {X : Type 0} → Result X AssignmentFault → Type 0
PinnedOnly (Ok x) = Unit {0}
PinnedOnly (Err f) = IsPinned f

with_seat_only : (route : List ℕ) (r : Result Assignment AssignmentFault) → PinnedOnly r → PinnedOnly (with_route route r)
unfolding PinnedOnly
with_seat_only route (Ok claims) only = tt
with_seat_only route (Err f) only = only

or_pinned_only : (v : ℕ) (next : TakenRoute → Result Assignment AssignmentFault) → ((t : TakenRoute) → PinnedOnly (next t)) → (o : Option TakenRoute) → PinnedOnly (or_no_route v next o)
unfolding PinnedOnly IsPinned
or_pinned_only v next only None = (v, refl)
or_pinned_only v next only (Some t) = only t

claimed_only : (v : ℕ) (pins routes : List (List ℕ)) → PinnedOnly (assign_by_pins v pins routes)
unfolding PinnedOnly assign_by_pins
claimed_only v [] routes = tt
claimed_only v (pin ∷ pins) routes = or_pinned_only v _ (λ t. with_seat_only t.route _ (claimed_only (v + 1) pins t.remaining)) (take_route pin routes)

plan_only : (fleet : ℕ) (r : Result Assignment AssignmentFault) → PinnedOnly r → PinnedOnly (plan_of_assignment fleet r)
unfolding PinnedOnly
plan_only fleet (Ok claims) only = tt
plan_only fleet (Err f) only = only

pub pinned_only : (fleet : ℕ) (pins routes : List (List ℕ)) (f : AssignmentFault) → assigned_plan fleet pins routes ≡ Err f → (v : ℕ) × (f ≡ PinWithoutRoute v)
unfolding PinnedOnly IsPinned
pinned_only fleet pins routes f is = subst PinnedOnly is (plan_only fleet (assign_by_pins 1 pins routes) (claimed_only 1 pins routes))

module _ (p : Instance) (pins : List (List ℕ)) (text : List ℕ) where
  by_kind_reported : (f : SolFault) (k : SolFaultKind) → IsFirstFault text f → IsFoundOrOutOfMemory p pins text (Err (by_kind k f))
  by_kind_reported f sol.OutOfMemory first = inl refl
  by_kind_reported f sol.BadLine first = inr first
  by_kind_reported f sol.BadNumber first = inr first
  by_kind_reported f sol.NoCost first = inr first

  pub fault_reported : (f : SolFault) → (f ≡ out_of_memory) ⊎ IsFirstFault text f → IsFoundOrOutOfMemory p pins text (Err (fault_from f))
  fault_reported f (inl memory) = inl (ap (λ g. Err (fault_from g)) memory)
  fault_reported f (inr first) = by_kind_reported f f.kind first

  pub seats_found : (s : Solution) (cost : Cost) → IsAudited p text s (verdict.Pass cost) → (fleet : ℕ) (given : List (List ℕ)) → fleet ≡ p.fleet → given ≡ pins
      → (r : Result Plan AssignmentFault) → Gives r (assigned_plan fleet given s.routes) → IsFoundOrOutOfMemory p pins text r
  seats_found s cost audited fleet given same are r gives = here r (subst (λ n. Gives r (assigned_plan n pins s.routes)) same (subst (λ ps. Gives r (assigned_plan fleet ps s.routes)) are gives))
    where
      here : (r : Result Plan AssignmentFault) → Gives r (assigned_plan p.fleet pins s.routes) → IsFoundOrOutOfMemory p pins text r
      here (Ok plan) is = inr (s, cost, audited, is)
      here (Err f) (inl memory) = inl (ap Err memory)
      here (Err f) (inr is) =
          let only = pinned_only p.fleet pins s.routes f is in
          subst (λ f. IsFoundOrOutOfMemory p pins text (Err f)) (sym only.1) (inr (s, cost, audited, is ∙ ap Err only.1))
