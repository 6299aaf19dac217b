-- At first, the loads to come are those of all visits.
use Rattle.std.proofs.Common.{◌∙◌, ap}
use Rattle.route_sched.proofs.VisitLemmas.{all_visits}
use Rattle.plan_picture.specs.Table.{top_load}
use Rattle.plan_picture.proofs.table.top_load.Goals as goal

pub loop-visit-init : goal.loop-visit-init
loop-visit-init c =
    let p = c.args.problem.now in
    let route = c.args.route.now in
    let all = all_visits c.into_iter-visit-iterator.result p route (c.into_iter-visit-iterator.ensures.into_iter_gives ∙ c.new-visit-items.ensures) in
    ap top_load all
