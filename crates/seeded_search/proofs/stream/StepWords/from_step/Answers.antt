-- The generator of a seed and a step is before the first word of the step.
use Rattle.seeded_search.specs.Generator.{NextStep}
use Rattle.seeded_search.proofs.StepLemmas.{step_seen, is_before_step}
use Rattle.seeded_search.proofs.stream.StepWords.from_step.Goals as goal

abbrev first_step : goal.After-generator → NextStep
first_step c = record { seed = c.args.seed; step = c.args.step }

pub invariant_of-result : goal.invariant_of-result
invariant_of-result c = is_before_step c.generator.result (first_step c) c.ranges.seed.fits c.generator.ensures

pub returns : goal.returns
returns c = step_seen c.generator.result (first_step c) c.ranges.seed.fits c.generator.ensures
