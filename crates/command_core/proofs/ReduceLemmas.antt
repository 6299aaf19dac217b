-- The job after the attempts and the annealing of `Reduce`
use Rattle.std.proofs.Common.{◌≡◌, ◌∙◌, ℕ, ◌+◌, ◌-◌, ◌≤◌, true, List, sym, ap, subst, arith}
use Rattle.plan_types.specs.Instance.{Instance}
use Rattle.plan_audit.specs.Passes.{passes}
use Rattle.seeded_search.specs.SearchStates.{search_plans_of}
use Rattle.seeded_search.specs.declared.search_state.SearchState.{SearchState}
use Rattle.anneal_search.specs.Annealing.{SearchPlans, anneal_steps, search_plans}
use Rattle.anneal_search.specs.declared.attempts.Reduction.{Reduction}
use Rattle.fleet_reduction.specs.Laws.{HasAttempts, AttemptsKeepPlans}
use Rattle.fleet_reduction.specs.Attempts.{Attempts, all_attempts}
use Rattle.command_core.specs.Effects.{reduced}
use Rattle.command_types.specs.Job.{IsJob, JobValue}
use Rattle.command_core.specs.KeptSearch.{with_search_plans}

-- The attempts with the problem, the pins and the seed of a job
pub in_job : (j : JobValue) (p : Instance) (pins : List (List ℕ)) (seed count : ℕ) (tried : Reduction) → p ≡ j.problem → pins ≡ j.pins → seed ≡ j.seed
    → HasAttempts (all_attempts p pins seed count j.steps j.plan) tried → HasAttempts (all_attempts j.problem j.pins j.seed count j.steps j.plan) tried
in_job j p pins seed count tried same_problem same_pins same_seed has =
    subst (λ k. HasAttempts (all_attempts j.problem j.pins k count j.steps j.plan) tried) same_seed
    (subst (λ l. HasAttempts (all_attempts j.problem l seed count j.steps j.plan) tried) same_pins
    (subst (λ q. HasAttempts (all_attempts q pins seed count j.steps j.plan) tried) same_problem has))

module _ (j : JobValue) (count : ℕ) (tried : Reduction) (has : HasAttempts (all_attempts j.problem j.pins j.seed count j.steps j.plan) tried) where
  abbrev tries : Attempts
  tries = all_attempts j.problem j.pins j.seed count j.steps j.plan

  -- The plan after the attempts passes, and the attempts make no more steps than allowed
  pub attempts_kept : AttemptsKeepPlans → IsJob j → (passes j.problem j.pins tried.plan.routes ≡ true) × (tried.step ≤ j.steps + count)
  attempts_kept law is =
      let kept = law j.problem j.pins j.plan j.seed count j.steps is.fleet is.problem.fleet is.plan in
      (subst (λ routes. passes j.problem j.pins routes ≡ true) (sym has.plan) kept.plan, omega (arith, has.step, kept.last))

  -- The search state after `Reduce` has the plans that the effect of the command defines
  pub reduced_is : (w : SearchState) → search_plans_of w ≡ anneal_steps j.problem j.pins j.deviation j.seed tried.step (j.steps + count - tried.step) (search_plans tried.plan.routes tried.plan.routes)
      → with_search_plans j w (j.steps + count) ≡ reduced j count
  reduced_is w made =
      let same : search_plans_of w ≡ anneal_steps j.problem j.pins j.deviation j.seed tries.step (j.steps + count - tries.step) (search_plans tries.plan tries.plan) =
      made
      ∙ (ap (λ n. anneal_steps j.problem j.pins j.deviation j.seed n (j.steps + count - n) (search_plans tried.plan.routes tried.plan.routes)) has.step
      ∙ ap (λ routes. anneal_steps j.problem j.pins j.deviation j.seed tries.step (j.steps + count - tries.step) (search_plans routes routes)) has.plan) in
      ap (λ (s : SearchPlans). record j { plan = s.incumbent; work = s.working; steps = j.steps + count }) same

-- Zero annealing steps change nothing
pub no_steps : (p : Instance) (pins : List (List ℕ)) (deviation seed n count : ℕ) (s : SearchPlans) → count ≡ 0 → s ≡ anneal_steps p pins deviation seed n count s
unfolding anneal_steps
no_steps p pins deviation seed n count s none = ap (λ k. anneal_steps p pins deviation seed n k s) (sym none)
