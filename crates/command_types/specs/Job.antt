-- The value of a `Job` in contracts, as plain data
use Rattle.std.specs.Prelude.{◌≡◌, ℕ, ◌<◌, ◌≤◌, ◌^◌, true, List, length}
use Rattle.std.specs.List.{list_all}
use Rattle.plan_types.specs.Instance.{Instance, IsInstance}
use Rattle.plan_audit.specs.Passes.{feasible_alone, passes}
use Rattle.plan_types.specs.declared.limits.TheConstants.{MAX_DEVIATION, MAX_STEPS}

-- Pins, plan and working plan have a list for each vehicle
pub record JobValue : Type 0 where
  pub problem : Instance
  pub pins : List (List ℕ)
  pub plan : List (List ℕ)
  pub work : List (List ℕ)
  pub deviation : ℕ
  pub seed : ℕ
  pub steps : ℕ

-- The plan and the working plan pass the auditor with the pins, each vehicle has a pin, and each pin alone is a
-- feasible route.
pub record IsJob (j : JobValue) : Type 0 where
  pub problem : IsInstance j.problem
  pub fleet : length j.pins ≡ j.problem.fleet
  pub pins : list_all (feasible_alone j.problem) j.pins ≡ true
  pub plan : passes j.problem j.pins j.plan ≡ true
  pub work : passes j.problem j.pins j.work ≡ true
  pub deviation : j.deviation ≤ MAX_DEVIATION
  pub seed : j.seed < 2 ^ 64
  pub steps : j.steps ≤ MAX_STEPS
