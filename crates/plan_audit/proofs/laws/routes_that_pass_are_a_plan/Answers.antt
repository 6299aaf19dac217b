-- The routes of a plan or solution that passes are a plan, and each has distinct current stops.
use Rattle.plan_audit.proofs.LawProofs.{passes_are_plans}
use Rattle.plan_audit.proofs.laws.routes_that_pass_are_a_plan.Goals as goal

pub returns : goal.returns
returns c = passes_are_plans
