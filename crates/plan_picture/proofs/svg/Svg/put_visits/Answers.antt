-- At first, the visits to come are all visits of the route, from the first start on.
use Rattle.std.proofs.Common.{◌∙◌, ◌++◌, ap}
use Rattle.route_sched.proofs.VisitLemmas.{all_visits}
use Rattle.plan_picture.specs.Days.{visits_text}
use Rattle.plan_picture.specs.DrawnStops.{visits_of}
use Rattle.plan_picture.proofs.svg.Svg.put_visits.Goals as goal

pub loop-visit-init : goal.loop-visit-init
loop-visit-init c =
    let p = c.args.problem.now in
    let route = c.args.route.now in
    let all = all_visits c.into_iter-visit-iterator.result p route (c.into_iter-visit-iterator.ensures.into_iter_gives ∙ c.new-visit-items.ensures) in
    let text = c.args.self.now in
    ap (λ visits. text ++ visits_text c.from-start.result 0 visits) all ∙ ap (λ start. text ++ visits_text start 0 (visits_of p route)) c.from-start.ensures
