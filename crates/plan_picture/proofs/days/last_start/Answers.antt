-- At first, the starts to come are those of all visits.
use Rattle.std.proofs.Common.{◌∙◌, ap}
use Rattle.route_sched.proofs.VisitLemmas.{all_visits}
use Rattle.plan_picture.specs.Days.{last_start}
use Rattle.plan_picture.proofs.days.last_start.Goals as goal

pub loop-visit-init : goal.loop-visit-init
loop-visit-init c =
    let p = c.args.problem.now in
    let route = c.args.route.now in
    let all = all_visits c.into_iter-visit-iterator.result p route (c.into_iter-visit-iterator.ensures.into_iter_gives ∙ c.new-visit-items.ensures) in
    ap (last_start c.args.first) all
