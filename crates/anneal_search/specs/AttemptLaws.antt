-- The result of an attempt, and what its steps preserve
use Rattle.std.specs.Prelude.{◌≡◌, ℕ, ◌+◌, ◌<◌, ◌≤◌, ◌==◌, true, false, List}
use Rattle.plan_types.specs.Instance.{Instance}
use Rattle.route_sched.specs.Cost.{unplanned_count}
use Rattle.plan_audit.specs.Passes.{passes}
use Rattle.anneal_search.specs.AttemptState.{AttemptState, attempt_steps}
use Rattle.anneal_search.specs.declared.attempts.Reduction.{Reduction}

-- The best plan, and the number of the step after the last one
pub record IsAttemptResult (end : AttemptState) (tried : Reduction) : Type 0 where
  pub plan : tried.plan.routes ≡ end.incumbent
  pub step : tried.step ≡ end.step

-- Both plans pass
pub record AttemptPasses (p : Instance) (pins : List (List ℕ)) (t : AttemptState) : Type 0 where
  pub incumbent : passes p pins t.incumbent ≡ true
  pub working : passes p pins t.working ≡ true

-- Law: an attempt leads from plans that pass to plans that pass
abbrev pub AttemptsKeepPassing : Type 0
AttemptsKeepPassing = (p : Instance) (pins : List (List ℕ)) (deviation seed most : ℕ) (t : AttemptState)
    → AttemptPasses p pins t → AttemptPasses p pins (attempt_steps p pins deviation seed most t)

-- Law: an attempt makes no more steps than it may and, if it may make any and the plan leaves a request out, at
-- least one
abbrev pub AttemptsAreBounded : Type 0
AttemptsAreBounded = (p : Instance) (pins : List (List ℕ)) (deviation seed most : ℕ) (t : AttemptState) → let end = attempt_steps p pins deviation seed most t in
    (t.step ≤ end.step) × (end.step ≤ t.step + most) × (0 < most → (unplanned_count p t.incumbent == 0) ≡ false → t.step < end.step)
