-- At first, the visits to come are all visits of the route.
use Rattle.std.proofs.Common.{◌∙◌, ◌++◌, ap}
use Rattle.route_sched.proofs.VisitLemmas.{all_visits}
use Rattle.plan_picture.specs.Map.{legs_text}
use Rattle.plan_picture.proofs.svg.Svg.put_legs.Goals as goal

pub loop-visit-init : goal.loop-visit-init
loop-visit-init c =
    let p = c.args.problem.now in
    let route = c.args.route.now in
    let all = all_visits c.into_iter-visit-iterator.result p route (c.into_iter-visit-iterator.ensures.into_iter_gives ∙ c.new-visit-items.ensures) in
    ap (λ visits. c.args.self.now ++ legs_text c.args.frame.now c.args.depot.now visits) all
