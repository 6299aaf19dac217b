-- Attempts from a plan that passes lead to one that passes, within their steps.
use Rattle.fleet_reduction.proofs.AttemptLemmas.{attempts_keep_plans}
use Rattle.fleet_reduction.proofs.laws.attempts_keep_plans.Goals as goal

pub returns : goal.returns
returns c = attempts_keep_plans (record {
  picked = c.picked_pass.ensures.picked;
  back = c.picked_pass.ensures.back;
  passing = c.attempts_keep_passing.ensures.passing;
  short = c.attempts_keep_passing.ensures.short;
})
