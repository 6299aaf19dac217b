-- The parts of a state that were read and not yet checked
use Rattle.std.specs.Prelude.{◌≡◌, ◌<◌, ◌≤◌, ◌+◌, ◌^◌, length}
use Rattle.plan_types.specs.Limits.{IsCapacity, IsDepot, IsFleet}
use Rattle.plan_types.specs.declared.limits.TheConstants.{MAX_DEVIATION, MAX_STEPS, MAX_STOP_NUMBER}
use Rattle.command_types.specs.Job.{JobValue}
use Rattle.state_codec.specs.declared.head.Head.{Head}
use Rattle.state_codec.specs.declared.parts.Parts.{Parts}

abbrev pub job_in : Parts → JobValue
job_in a = record { problem = a.problem; pins = a.pins.routes; plan = a.plan.routes; work = a.work.routes; deviation = a.deviation; seed = a.seed; steps = a.steps }

-- A head within the limits of a problem
pub record IsHead (h : Head) : Type 0 where
  pub depot : IsDepot h.depot
  pub capacity : IsCapacity h.capacity
  pub fleet : IsFleet h.fleet
  pub next_number_min : 1 ≤ h.next_number
  pub next_number_max : h.next_number ≤ MAX_STOP_NUMBER + 1

-- A job within the limits of a state
pub record IsWithin (j : JobValue) : Type 0 where
  pub fleet : length j.pins ≡ j.problem.fleet
  pub deviation : j.deviation ≤ MAX_DEVIATION
  pub seed : j.seed < 2 ^ 64
  pub steps : j.steps ≤ MAX_STEPS
