-- A plan or a solution passes or has a first violation. A list of distinct current stops is feasible alone, or
-- has a first rule that it breaks as the only route.
use Rattle.plan_audit.proofs.TotalLemmas.{subjects_have_verdicts, routes_have_answers}
use Rattle.plan_audit.proofs.laws.each_plan_has_a_verdict.Goals as goal

pub returns-clause-verdicts : goal.returns-clause-verdicts
returns-clause-verdicts c = subjects_have_verdicts

pub returns-clause-routes : goal.returns-clause-routes
returns-clause-routes c = routes_have_answers
