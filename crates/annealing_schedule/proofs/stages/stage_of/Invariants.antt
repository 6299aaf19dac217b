-- The remaining stages determine the stage of the step.
use Rattle.std.proofs.Common.{◌-◌, ◌≡◌}
use Rattle.annealing_schedule.specs.Stages.{stage_among}
use Rattle.annealing_schedule.proofs.stages.stage_of.Given as goal

abbrev pub invariant-loop-stage : goal.invariant-loop-stage
invariant-loop-stage l = stage_among l.fn.from l.fn.to l.fn.step l.stage (20 - l.stage) ≡ stage_among l.fn.from l.fn.to l.fn.step 0 20

abbrev pub decreases-loop-stage : goal.decreases-loop-stage
decreases-loop-stage l = 20 - l.stage
