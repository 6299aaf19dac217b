-- Whether adopting a plan is refused depends only on the job's problem, pins and plan
use Rattle.std.proofs.Common.{sym, ap, ◌∙◌}
use Rattle.command_types.specs.Job.{JobValue}
use Rattle.command_core.specs.Refusals.{adopt_refusal, job_refusal}
use Rattle.command_core.proofs.acceptance.job_refusal.Goals as goal

pub returns-in-Adopt : goal.returns-in-Adopt
returns-in-Adopt c =
    let plan = c.in-Adopt.plan in
    c.adopt_refusal.ensures ∙ ap (λ (j : JobValue). adopt_refusal j.problem j.pins j.plan plan.routes) c.job.view_is ∙ ap (job_refusal c.args.job.now) (sym c.in-Adopt.is)
