-- Each route adds its length, which is at most 5,656,854 for each of its stops.
use Rattle.std.proofs.Common.{◌≡◌, ◌∙◌, [], length, get_or, take, ap, arith}
use Rattle.std.specs.List.{concat}
use Rattle.std.proofs.lemmas.List.{get_or_read, length-append}
use Rattle.std.proofs.lemmas.List.Sums.{sum_by_more}
use Rattle.route_sched.specs.Schedule.{route_length}
use Rattle.route_sched.proofs.Concats.{concat_more}
use Rattle.route_sched.proofs.cost.total_distance.Goals as goal

pub loop-route-preserved : goal.loop-route-preserved
loop-route-preserved c =
    let i = c.loop-route.route-index in
    let before = concat (take c.loop-route.route-index c.args.routes.now) in
    let route : c.as_slice.result.now ≡ get_or c.args.routes.now c.loop-route.route-index [] =
    c.as_slice.ensures ∙ get_or_read c.args.routes.now c.loop-route.route-index c.route-item.result c.loop-route-test.true c.route-item.is [] in
    let made = c.route_distance.ensures in
    let more =
    ap length (concat_more c.args.routes.now c.loop-route.route-index c.loop-route-test.true)
    ∙ length-append before (get_or c.args.routes.now c.loop-route.route-index []) in
    record {
      sum = omega (
        arith,
        sum_by_more (route_length c.args.problem.now) c.args.routes.now i [] c.loop-route-test.true,
        c.loop-route.invariant.sum,
        made.value
            ∙ ap (λ r. route_length c.args.problem.now r) route,
      );
      legs = omega (arith, more, made.bound, ap length route, c.loop-route.invariant.legs);
      bound = omega (arith, c.loop-route.invariant.bound);
    }
