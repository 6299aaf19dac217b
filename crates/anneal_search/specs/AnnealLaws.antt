-- Laws of annealing steps, for every problem, pins, deviation and seed: the laws of a search of any kind
use Rattle.seeded_search.specs.StepLaws.{AddUp, KeepPassing, NeverCostMore}
use Rattle.anneal_search.specs.Annealing.{anneal_steps}

-- Law: some steps followed by more steps equal all of them in one run
abbrev pub AnnealStepsAddUp : Type 0
AnnealStepsAddUp = AddUp anneal_steps

-- Law: plans that pass lead to plans that pass
abbrev pub AnnealStepsKeepPassing : Type 0
AnnealStepsKeepPassing = KeepPassing anneal_steps

-- Law: the incumbent never becomes more expensive
abbrev pub AnnealingNeverCostsMore : Type 0
AnnealingNeverCostsMore = NeverCostMore anneal_steps
