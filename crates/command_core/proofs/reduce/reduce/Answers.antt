-- The plan of the attempts passes and they made no more steps than allowed, so annealing continues from there
-- up to the last step
use Rattle.std.proofs.Common.{◌≡◌, ◌∙◌, ◌+◌, ◌-◌, true, sym, ap, subst, arith}
use Rattle.seeded_search.specs.SearchStates.{search_plans_of}
use Rattle.anneal_search.specs.Annealing.{anneal_steps}
use Rattle.fleet_reduction.specs.Laws.{HasAttempts}
use Rattle.fleet_reduction.specs.Attempts.{all_attempts}
use Rattle.plan_audit.specs.Passes.{passes}
use Rattle.command_types.specs.Job.{IsJob, JobValue}
use Rattle.command_core.specs.KeptSearch.{IsStepOutcome, with_search_plans}
use Rattle.command_core.proofs.StepLimitLemmas.{fit}
use Rattle.command_core.proofs.ReduceLemmas.{in_job, reduced_is, attempts_kept}
use Rattle.command_core.proofs.reduce.reduce.Goals as goal

pub begin-requires-clause-plan : goal.begin-requires-clause-plan
begin-requires-clause-plan g c =
    let j = c.args.job.now in
    let context = c.context_of-context in
    let tried = c.in_ok-tried.tried in
    let found = subst (λ (i : JobValue). HasAttempts (all_attempts context.result.problem.now context.result.pins.now.routes context.result.seed c.args.count i.steps i.plan) tried) c.job.view_is c.in_ok-tried.ensures in
    let has = in_job j _ _ _ c.args.count tried context.ensures.problem context.ensures.pins context.ensures.seed found in
    let kept = attempts_kept j c.args.count tried has c.attempts_keep_plans.ensures (subst IsJob c.job.view_is c.job.invariant) in
    subst (λ p. passes p context.result.pins.now.routes tried.plan.routes ≡ true) (sym context.ensures.problem)
    (subst (λ l. passes j.problem l tried.plan.routes ≡ true) (sym context.ensures.pins) kept.0)

pub begin-requires-clause-work : goal.begin-requires-clause-work
begin-requires-clause-work g c =
    let j = c.args.job.now in
    let context = c.context_of-context in
    let tried = c.in_ok-tried.tried in
    let found = subst (λ (i : JobValue). HasAttempts (all_attempts context.result.problem.now context.result.pins.now.routes context.result.seed c.args.count i.steps i.plan) tried) c.job.view_is c.in_ok-tried.ensures in
    let has = in_job j _ _ _ c.args.count tried context.ensures.problem context.ensures.pins context.ensures.seed found in
    let kept = attempts_kept j c.args.count tried has c.attempts_keep_plans.ensures (subst IsJob c.job.view_is c.job.invariant) in
    subst (λ p. passes p context.result.pins.now.routes tried.plan.routes ≡ true) (sym context.ensures.problem)
    (subst (λ l. passes j.problem l tried.plan.routes ≡ true) (sym context.ensures.pins) kept.0)

pub anneal_to-requires-clause-order : goal.anneal_to-requires-clause-order
anneal_to-requires-clause-order g c =
    let j = c.args.job.now in
    let context = c.context_of-context in
    let tried = c.in_ok-tried.tried in
    let found = subst (λ (i : JobValue). HasAttempts (all_attempts context.result.problem.now context.result.pins.now.routes context.result.seed c.args.count i.steps i.plan) tried) c.job.view_is c.in_ok-tried.ensures in
    let has = in_job j _ _ _ c.args.count tried context.ensures.problem context.ensures.pins context.ensures.seed found in
    let kept = attempts_kept j c.args.count tried has c.attempts_keep_plans.ensures (subst IsJob c.job.view_is c.job.invariant) in
    omega (arith, kept.1, ap (λ (i : JobValue). i.steps) c.job.view_is, c.from.ensures)

pub anneal_to-requires-clause-last : goal.anneal_to-requires-clause-last
anneal_to-requires-clause-last g c = omega (arith, (fit 524288 c.args.job.now.steps c.args.count c.requires).1, ap (λ (i : JobValue). i.steps) c.job.view_is, c.from.ensures)

pub returns-clause-ok : goal.returns-clause-ok
returns-clause-ok g c =
    let j = c.args.job.now in
    let context = c.context_of-context in
    let tried = c.in_ok-tried.tried in
    let found = subst (λ (i : JobValue). HasAttempts (all_attempts context.result.problem.now context.result.pins.now.routes context.result.seed c.args.count i.steps i.plan) tried) c.job.view_is c.in_ok-tried.ensures in
    let has = in_job j _ _ _ c.args.count tried context.ensures.problem context.ensures.pins context.ensures.seed found in
    let end : c.job.inside.steps + c.from.result ≡ c.args.job.now.steps + c.args.count = omega (arith, ap (λ (i : JobValue). i.steps) c.job.view_is, c.from.ensures) in
    let made =
    c.in_ok-search_state-2.ensures.search_plans
    ∙ (ap (λ n. anneal_steps j.problem j.pins j.deviation j.seed tried.step (n - tried.step) (search_plans_of c.in_ok-search_state.search_state)) end
    ∙ ap (anneal_steps j.problem j.pins j.deviation j.seed tried.step (j.steps + c.args.count - tried.step)) c.in_ok-search_state.ensures.search_plans) in
    let same = ap (with_search_plans j c.in_ok-search_state-2.search_state) end ∙ reduced_is j c.args.count tried has c.in_ok-search_state-2.search_state made in
    subst (λ k. IsStepOutcome j k c.in_ok-changed_by.field-0) same c.in_ok-changed_by.ensures
