-- If no request is left out, the text spells the solution.
use Rattle.std.proofs.Common.{◌∙◌}
use Rattle.plan_solve.proofs.printing.printed_plan.Goals as goal

pub returns-clause-spells : goal.returns-clause-spells
returns-clause-spells c = λ none. c.in_ok-text.ensures.spells (c.deref.ensures.value ∙ none)
