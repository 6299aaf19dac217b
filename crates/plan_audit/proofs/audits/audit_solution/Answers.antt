-- A solution has the verdict of its routes. If they pass, either its printed cost is wrong or the solution
-- passes.
use Rattle.std.proofs.Common.{sym, ap, subst, ◌∙◌}
use Rattle.plan_types.specs.declared.plans.Cost.{Cost}
use Rattle.plan_audit.specs.Verdict.{printed, IsVerdictWithin}
use Rattle.plan_audit.specs.declared.rules.Verdict.TheVariants.{Pass}
use Rattle.plan_audit.proofs.RoutesLemmas.{still_broken}
use Rattle.plan_audit.proofs.StepLemmas.{cost_step, true_cost_step}
use Rattle.plan_audit.proofs.audits.audit_solution.Goals as goal
use Rattle.plan_audit.proofs.audits.audit_solution.Goals.{In_ok-broken, In-Pass}

-- the verdict on the routes is the verdict on rules 1 to 10 for the given solution
judged : (c : In_ok-broken) → IsVerdictWithin 1 10 c.args.problem.now (printed c.args.solution.now.routes c.args.solution.now.cost) c.in_ok-broken.broken
judged c =
    subst (λ routes. IsVerdictWithin 1 10 c.args.problem.now (printed routes c.args.solution.now.cost) c.in_ok-broken.broken) c.as_slice.ensures
    (c.in_ok-broken.ensures c.args.solution.now.cost)

passed : (c : In-Pass) → IsVerdictWithin 1 10 c.args.problem.now (printed c.args.solution.now.routes c.args.solution.now.cost) (Pass c.in-Pass.cost)
passed c =
    subst (IsVerdictWithin 1 10 c.args.problem.now (printed c.args.solution.now.routes c.args.solution.now.cost)) c.in-Pass.is
    (judged (goal.at.In-Pass c).In_ok-broken)

pub returns-in_default : goal.returns-in_default
returns-in_default c =
    still_broken c.args.problem.now (printed c.args.solution.now.routes c.args.solution.now.cost) c.in_ok-broken.broken c.in_default.not-Pass
    (judged (goal.at.returns-in_default c).In_ok-broken)

pub returns-then-cost-solution : goal.returns-then-cost-solution
returns-then-cost-solution c =
    let cost = passed (goal.at.returns-then-cost-solution c).In-Pass in
    cost_step c.args.problem.now c.args.solution.now.routes c.args.solution.now.cost cost.0 _ c.broken_by.ensures
    (λ same. c.if-cost-solution.true (ap (λ (k : Cost). k.distance) cost.1 ∙ sym same))

pub returns : goal.returns
returns c =
    let cost = passed (goal.at.returns c).In-Pass in (
      true_cost_step c.args.problem.now c.args.solution.now.routes c.args.solution.now.cost cost.0
          (sym c.if-cost-solution.false ∙ ap (λ (k : Cost). k.distance) cost.1),
      cost.1,
    )
