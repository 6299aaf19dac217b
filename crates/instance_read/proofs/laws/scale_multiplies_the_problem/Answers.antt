-- A text spells with a scale the problem that it spells with scale 1, times the scale.
use Rattle.instance_read.proofs.ScaleLawProofs.{ranges_follow_the_scale, scaled_texts_spell_scaled_problems}
use Rattle.instance_read.proofs.laws.scale_multiplies_the_problem.Goals as goal

pub returns-clause-problem : goal.returns-clause-problem
returns-clause-problem c = scaled_texts_spell_scaled_problems

pub returns-clause-ranges : goal.returns-clause-ranges
returns-clause-ranges c = ranges_follow_the_scale
