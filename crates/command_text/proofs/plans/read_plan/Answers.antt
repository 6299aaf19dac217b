-- The result is the plan that the reading has for the job's problem and pins, or out of memory.
use Rattle.std.proofs.Common.{subst, rules}
use Rattle.command_types.specs.Job.{JobValue}
use Rattle.command_text.specs.Readings.{IsPlanUnlessMemory}
use Rattle.plan_types.specs.Instance.{IsInstance}
use Rattle.command_text.proofs.VehicleAssignmentLemmas.{plan_once}
use Rattle.command_text.proofs.plans.read_plan.Goals as goal

pub returns : goal.returns
returns c reading is =
    let valid : IsInstance c.job.inside.problem = search rules in
    subst (λ (j : JobValue). IsPlanUnlessMemory c.assign_vehicles.result (reading.plan j.problem j.pins c.args.text.now)) c.job.view_is
    (plan_once c.assignment_is_unique.ensures.one reading is c.job.inside.problem c.job.inside.pins.routes c.args.text.now valid c.assign_vehicles.result c.assign_vehicles.ensures)
