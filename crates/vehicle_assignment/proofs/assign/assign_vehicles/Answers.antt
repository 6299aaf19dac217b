-- The verdict on a solution determines the plan, or the reason why there is none.
use Rattle.std.proofs.Common.{ap, subst}
use Rattle.std.proofs.lemmas.Result.{err_from_is_err_and}
use Rattle.plan_types.specs.Instance.{Instance}
use Rattle.plan_audit.specs.Verdict.{IsVerdict, printed}
use Rattle.vehicle_assignment.proofs.FoundLemmas.{fault_reported, seats_found}
use Rattle.vehicle_assignment.proofs.assign.assign_vehicles.Goals as goal

pub returns-in_err-solution : goal.returns-in_err-solution
returns-in_err-solution c =
    let p = err_from_is_err_and c.from_residual.result c.from_residual.ensures.1 in
    rw (p.1, p.2) (fault_reported c.args.problem.now c.args.pins.now.routes c.args.text.now c.in_err-solution.field-0.0 c.in_err-solution.ensures.fault)

pub returns-in-Pass : goal.returns-in-Pass
returns-in-Pass c =
    seats_found c.args.problem.now c.args.pins.now.routes c.args.text.now c.in_ok-solution.solution c.in-Pass.field-0
    (c.in_ok-solution.ensures.found, subst (IsVerdict c.args.problem.now (printed c.in_ok-solution.solution.routes c.in_ok-solution.solution.cost)) c.in-Pass.is c.in_ok-audit_solution.ensures)
    c.problem.inside.fleet c.as_slice.result.now (ap (λ (p : Instance). p.fleet) c.problem.view_is) c.as_slice.ensures c.assigned_plan.result c.assigned_plan.ensures
