-- The boundaries of the stages never fall, from the first step to the end of the last stage.
use Rattle.annealing_schedule.proofs.StageLemmas.{stages_cover}
use Rattle.annealing_schedule.proofs.laws.stages_cover_all_steps.Goals as goal

pub returns : goal.returns
returns c = stages_cover
