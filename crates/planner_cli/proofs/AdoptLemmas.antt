-- If a solution is a plan for the store's instance and pins, the store does not refuse it as `NotAPlan`.
use Rattle.std.proofs.Common.{◌≡◌, ◌∙◌, ℕ, Bool, true, false, cond, List, Option, Some, None, Result, Ok, Err, refl, sym, ap, subst, arith, inl, inr}
use Rattle.std.specs.Prelude.{◌≢◌}
use Rattle.plan_types.specs.declared.plans.Plan.{Plan}
use Rattle.plan_audit.specs.Passes.{passes}
use Rattle.plan_audit.proofs.LocalLemmas.{passes_decides_the_verdict}
use Rattle.vehicle_assignment.specs.Laws.{AssignedPlansPass}
use Rattle.vehicle_assignment.specs.AssignedPlan.{IsFoundOrOutOfMemory}
use Rattle.vehicle_assignment.specs.declared.faults.AssignmentFault.TheVariants as seats
use Rattle.command_types.specs.Job.{IsJob, JobValue}
use Rattle.command_core.specs.Refusals.{costs_more, refusal}
use Rattle.command_types.specs.States.{IsState}
use Rattle.command_types.specs.declared.commands.Command.TheVariants.{Adopt}
use Rattle.command_types.specs.declared.refusals.Refusal.{Refusal}
use Rattle.command_types.specs.declared.refusals.Refusal.TheVariants.{NotAPlan, Dearer}
use Rattle.command_types.specs.declared.states.State.{State}
use Rattle.command_types.specs.declared.states.State.TheVariants.{Empty, Loaded}
use Rattle.recover.specs.Applying.{IsAnswer, denial}
use Rattle.recover.specs.Sessions.{SessionValue}
use Rattle.recover.specs.declared.denials.Denial.{Denial}
use Rattle.recover.specs.declared.denials.Denial.TheVariants.{Broken, Core, Spent}
use Rattle.std.specs.Option.{option_map, option_or}
use Rattle.planner_cli.specs.Adopt.{FindsPlan}
use Rattle.planner_cli.specs.declared.adopt.AdoptRefusal.TheVariants as none

module _ (law : AssignedPlansPass) where
  passes_with : (j : JobValue) (text : List ℕ) (plan : Plan) → IsJob j → IsFoundOrOutOfMemory j.problem j.pins text (Ok plan) → passes j.problem j.pins plan.routes ≡ true
  passes_with j text plan facts (inl e) = absurd (let h : Ok plan ≡ Err seats.OutOfMemory = e in cc)
  passes_with j text plan facts (inr is) =
      let fleet = facts.fleet in
      let verdict = law j.problem j.pins is.0.routes is.0.cost is.1 plan (omega (arith, fleet)) is.2.1 is.3 in
      (passes_decides_the_verdict j.problem j.pins plan.routes).1 (verdict.0, refl)

  not_refused : (state : State) (text : List ℕ) (plan : Plan) → IsState state → FindsPlan state text (Ok plan) → refusal state (Adopt plan) ≢ Some NotAPlan
  not_refused Empty text plan facts found is = let h : Ok plan ≡ Err none.NoInstance = found in cc
  not_refused (Loaded j) text plan facts found is =
      by (costs_more j.problem plan.routes j.plan) (let h : refusal (Loaded j) (Adopt plan) ≡ Some NotAPlan = is in rw (passes_with j text plan facts found) at h)
    where
      by : (b : Bool) → cond b (Some Dearer) None ≡ Some NotAPlan → ⊥
      by true e = cc
      by false e = cc

  -- The denial `Spent`, of a store that has no sequence number left, is not `NotAPlan`.
  not_spent : (b : Bool) → cond b (Some Spent) None ≡ Some (Core NotAPlan) → ⊥
  not_spent true e = cc
  not_spent false e = cc

  by_refusal : (broken due : Bool) (r : Option Refusal) → r ≢ Some NotAPlan
      → cond broken (Some Broken) (option_or (option_map Core r) (cond due (Some Spent) None)) ≡ Some (Core NotAPlan) → ⊥
  by_refusal true due r not e = cc
  by_refusal false due (Some x) not e = (let same : x ≡ NotAPlan = cc in not (ap Some same))
  by_refusal false due None not e = not_spent due e

  by_denial : {T : Type 0} (d : Option Denial) (answer : Result T Denial) → (d ≡ Some (Core NotAPlan) → ⊥) → IsAnswer d answer → answer ≢ Err (Core NotAPlan)
  by_denial (Some d) answer not is e = (let same : d ≡ Core NotAPlan = (let h : Err d ≡ Err (Core NotAPlan) = sym is ∙ e in cc) in not (ap Some same))
  by_denial None answer not is e = subst (IsAnswer None) e is

  pub not_denied : {D T : Type 0} (s : SessionValue D) (text : List ℕ) (plan : Plan) (answer : Result T Denial) → IsState s.state → FindsPlan s.state text (Ok plan)
      → IsAnswer (denial s (Adopt plan)) answer → answer ≢ Err (Core NotAPlan)
  not_denied s text plan answer facts found is =
      by_denial (denial s (Adopt plan)) answer (by_refusal s.is_broken _ (refusal s.state (Adopt plan)) (not_refused s.state text plan facts found)) is
