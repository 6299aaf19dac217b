-- The verdict on a plan depends first on its stops, loads and times, then on its number of routes, then on its
-- pins. If all rules hold, the plan passes with its cost.
use Rattle.std.proofs.Common.{◌≡◌, ℕ, List, Option, length, sym, ap, subst, ◌∙◌, refl, arith}
use Rattle.plan_types.specs.Instance.{Instance}
use Rattle.plan_audit.specs.FirstFault.{first_pin_mismatch}
use Rattle.plan_audit.specs.declared.faults.Fault.{Fault}
use Rattle.plan_audit.specs.Verdict.{planned, IsBrokenWithin, IsVerdictWithin}
use Rattle.plan_audit.specs.declared.rules.Verdict.TheVariants.{Pass}
use Rattle.plan_audit.proofs.StepLemmas.{length_step, pin_step, planned_step}
use Rattle.plan_audit.proofs.VerdictLemmas.{broken_wider, broken_verdict}
use Rattle.plan_audit.proofs.audits.audit.Goals as goal
use Rattle.plan_audit.proofs.audits.audit.Goals.{In-Ok}

-- the cost of the routes if rules 1 to 8 hold
judged : (c : In-Ok) → IsVerdictWithin 1 8 c.args.problem.now (planned c.args.plan.now.routes c.args.pins.now.routes) (Pass c.in-Ok.cost)
judged c =
    let s = planned c.args.plan.now.routes c.args.pins.now.routes in
    subst (λ (p : Instance). IsVerdictWithin 1 8 p s (Pass c.in-Ok.cost)) c.in_ok-scan.ensures.made.0
    (c.in-Ok.ensures.judged s (sym (c.in_ok-scan.ensures.made.1 ∙ c.as_slice-routes.ensures)) refl)

pub returns-in-Err : goal.returns-in-Err
returns-in-Err c =
    let p = c.args.problem.now in
    let s = planned c.args.plan.now.routes c.args.pins.now.routes in
    broken_verdict p s 1 11 c.in-Err.broken
    (broken_wider p s 1 8 11 c.in-Err.broken (omega arith)
    (subst (λ (q : Instance). IsBrokenWithin 1 8 q s c.in-Err.broken) c.in_ok-scan.ensures.made.0
    (c.in-Err.ensures.judged s (sym (c.in_ok-scan.ensures.made.1 ∙ c.as_slice-routes.ensures)) refl)))

-- if the number of routes equals the fleet, so does the length of the given plan in the given problem
same_length : (fleet : ℕ) (routes given : List (List ℕ)) (p : Instance) → fleet ≡ p.fleet → routes ≡ given → length routes ≡ fleet → length given ≡ p.fleet
same_length fleet routes given p same is len = sym (ap length is) ∙ len ∙ same

-- the pin mismatch that is found is the first one of the given plan and pins
same_pins : (routes given pins named : List (List ℕ)) (o : Option Fault) → routes ≡ given → pins ≡ named → o ≡ first_pin_mismatch routes pins
    → first_pin_mismatch given named ≡ o
same_pins routes given pins named o is are reported = ap (λ l. first_pin_mismatch l named) (sym is) ∙ ap (first_pin_mismatch routes) (sym are) ∙ sym reported

pub returns-then-routes-problem : goal.returns-then-routes-problem
returns-then-routes-problem c =
    length_step c.args.problem.now c.args.plan.now.routes c.args.pins.now.routes (judged (goal.at.returns-then-routes-problem c).In-Ok).0 _ c.broken_by.ensures
    (λ same. c.if-routes-problem.true (ap length c.as_slice-routes.ensures ∙ same ∙ sym (ap (λ (p : Instance). p.fleet) c.problem.view_is)))

pub returns-in-Some : goal.returns-in-Some
returns-in-Some c =
    pin_step c.args.problem.now c.args.plan.now.routes c.args.pins.now.routes (judged (goal.at.returns-in-Some c).In-Ok).0
    (same_length c.problem.inside.fleet c.as_slice-routes.result.now c.args.plan.now.routes c.args.problem.now
    (ap (λ (p : Instance). p.fleet) c.problem.view_is) c.as_slice-routes.ensures c.if-routes-problem.false)
    c.in-Some.fault _ c.broken_at.ensures
    (same_pins c.as_slice-routes.result.now c.args.plan.now.routes c.as_slice.result.now c.args.pins.now.routes _ c.as_slice-routes.ensures
    c.as_slice.ensures c.in-Some.ensures.reported)

pub returns : goal.returns
returns c = (
  planned_step c.args.problem.now c.args.plan.now.routes c.args.pins.now.routes (judged (goal.at.returns c).In-Ok).0
      (same_length c.problem.inside.fleet c.as_slice-routes.result.now c.args.plan.now.routes c.args.problem.now
      (ap (λ (p : Instance). p.fleet) c.problem.view_is) c.as_slice-routes.ensures c.if-routes-problem.false)
      (same_pins c.as_slice-routes.result.now c.args.plan.now.routes c.as_slice.result.now c.args.pins.now.routes _ c.as_slice-routes.ensures c.as_slice.ensures
      c.in_default.ensures.reported),
  (judged (goal.at.returns c).In-Ok).1,
)
