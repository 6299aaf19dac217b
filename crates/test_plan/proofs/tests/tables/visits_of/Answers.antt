-- All visits of the route are collected.
use Rattle.std.proofs.lemmas.Iterator.{items_from_collect}
use Rattle.std.proofs.lemmas.Iterator.Consumers.{YieldsList-from_first}
use Rattle.route_sched.specs.VisitList.{visits_from}
use Rattle.route_sched.specs.VisitsValue.{VisitsValue}
use Rattle.route_sched.proofs.VisitLemmas.{all_visits}
use Rattle.test_plan.proofs.tests.tables.visits_of.Goals as goal

pub returns : goal.returns
returns c =
    items_from_collect _ c.collect.ensures.ran
    (YieldsList-from_first (λ x. x) (λ (w : VisitsValue). visits_from w.problem w.route w.place) _ (all_visits _ c.args.problem.now c.args.route.now c.new.ensures))
