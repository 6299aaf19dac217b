-- The starts of the visits along a route, including the return, are the starts of its schedule.
use Rattle.std.proofs.Common.{◌∙◌, rules}
use Rattle.std.proofs.lemmas.Iterator.{YieldsList-from_map, items_from_collect}
use Rattle.std.proofs.lemmas.Iterator.Consumers.{YieldsList-from_first}
use Rattle.route_sched.specs.VisitList.{visits_from}
use Rattle.route_sched.specs.VisitsValue.{VisitsValue}
use Rattle.route_sched.proofs.VisitLemmas.{all_visits, starts_among_visits}
use Rattle.route_sched.proofs.schedule.starts.Goals as goal

pub returns : goal.returns
returns c =
    rw (← starts_among_visits c.args.problem.now c.args.route.now)
    (items_from_collect _ c.collect.ensures.ran
    (YieldsList-from_map _ (λ v. v.start)
    (YieldsList-from_first (λ x. x) (λ (w : VisitsValue). visits_from w.problem w.route w.place) _
    (all_visits _ c.args.problem.now c.args.route.now (c.map.ensures.source ∙ c.new.ensures)))
    c.map.ensures.closure (λ x r q k. search rules)))
