-- An attempt leads from plans that pass to plans that pass, and makes no more steps than it may
use Rattle.anneal_search.proofs.AttemptLemmas.{attempts_are_short, attempts_keep_passing}
use Rattle.anneal_search.proofs.laws.attempts_keep_passing.Goals as goal

pub returns-clause-passing : goal.returns-clause-passing
returns-clause-passing c = attempts_keep_passing

pub returns-clause-short : goal.returns-clause-short
returns-clause-short c = attempts_are_short
