-- The loads of the visits along a route, except for the return, are the loads of its schedule.
use Rattle.std.proofs.Common.{◌∙◌, ap, rules, length}
use Rattle.std.proofs.lemmas.Iterator.{YieldsList-from_map, YieldsList-from_take, items_from_collect}
use Rattle.std.specs.Iterator.Adapters.{take_source, take_count}
use Rattle.std.proofs.lemmas.Iterator.Consumers.{YieldsList-from_first}
use Rattle.route_sched.specs.VisitList.{visits_from}
use Rattle.route_sched.specs.VisitsValue.{VisitsValue}
use Rattle.route_sched.proofs.VisitLemmas.{all_visits, loads_among_visits}
use Rattle.route_sched.proofs.schedule.loads.Goals as goal

pub returns : goal.returns
returns c =
    rw (← loads_among_visits c.args.problem.now c.args.route.now)
    (items_from_collect _ c.collect.ensures.ran
    (YieldsList-from_map _ (λ v. v.load)
    (YieldsList-from_take (length c.args.route.now)
    (YieldsList-from_first (λ x. x) (λ (w : VisitsValue). visits_from w.problem w.route w.place) _
    (all_visits _ c.args.problem.now c.args.route.now (ap (λ s. take_source s) c.map.ensures.source ∙ (c.take.ensures.source ∙ c.new.ensures))))
    (ap (λ s. take_count s) c.map.ensures.source ∙ c.take.ensures.count))
    c.map.ensures.closure (λ x r q k. search rules)))
