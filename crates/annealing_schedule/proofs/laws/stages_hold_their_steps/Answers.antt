-- Each step lies between the boundaries of its stage.
use Rattle.annealing_schedule.proofs.StageLemmas.{stages_hold}
use Rattle.annealing_schedule.proofs.laws.stages_hold_their_steps.Goals as goal

pub returns : goal.returns
returns c = stages_hold
