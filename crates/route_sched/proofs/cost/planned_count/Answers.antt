-- The requests counted at the stops of all routes, together with the unplanned ones, are all requests.
use Rattle.std.proofs.Common.{◌≡◌, ◌+◌, ◌∙◌, [], get_or, take, ap, arith}
use Rattle.std.specs.List.{concat}
use Rattle.std.proofs.lemmas.List.{get_or_read, take_all}
use Rattle.route_sched.specs.RequestCount.{count_among}
use Rattle.route_sched.proofs.KnownStops.{few_stops}
use Rattle.route_sched.proofs.CountLemmas.{counted_unplanned, counted_more, counted_le}
use Rattle.route_sched.proofs.Concats.{concat_more, part_of_routes, length-concat-take-le}
use Rattle.route_sched.proofs.cost.planned_count.Goals as goal

pub counted_in-planned-requires : goal.counted_in-planned-requires
counted_in-planned-requires c n there =
    let route : c.as_slice.result.now ≡ get_or c.args.routes.now c.loop-route.route-index [] =
    c.as_slice.ensures ∙ get_or_read c.args.routes.now c.loop-route.route-index c.route-item.result c.loop-route-test.true c.route-item.is [] in
    part_of_routes c.args.routes.now c.loop-route.route-index n c.loop-route-test.true (rw route at there)

pub loop-route-preserved : goal.loop-route-preserved
loop-route-preserved c =
    let all = concat c.args.routes.now in
    let before = concat (take c.loop-route.route-index c.args.routes.now) in
    let route : c.as_slice.result.now ≡ get_or c.args.routes.now c.loop-route.route-index [] =
    c.as_slice.ensures ∙ get_or_read c.args.routes.now c.loop-route.route-index c.route-item.result c.loop-route-test.true c.route-item.is [] in
    let more = concat_more c.args.routes.now c.loop-route.route-index c.loop-route-test.true in
    rw more
    (omega (
      arith,
      counted_more c.args.problem.now all before (get_or c.args.routes.now c.loop-route.route-index []),
      c.loop-route.invariant,
      c.counted_in-planned.ensures
          ∙ ap (λ r. count_among c.args.problem.now (concat c.args.routes.now) r) route,
    ))

pub overflow_add-planned : goal.overflow_add-planned
overflow_add-planned c =
    let i = c.loop-route.route-index in
    omega (
      arith,
      loop-route-preserved c,
      counted_le c.args.problem.now (concat c.args.routes.now) (concat (take (c.loop-route.route-index + 1) c.args.routes.now)),
      length-concat-take-le c.args.routes.now (c.loop-route.route-index + 1),
      few_stops c.args.problem.now (concat c.args.routes.now) c.requires.problem c.requires.plan,
    )

pub returns : goal.returns
returns c =
    let all = take_all c.loop-route.route-index c.args.routes.now c.loop-route-test.false in
    let planned = c.loop-route.invariant ∙ ap (λ rs. count_among c.args.problem.now (concat c.args.routes.now) (concat rs)) all in
    omega (arith, planned, counted_unplanned c.args.problem.now c.args.routes.now c.requires.problem c.requires.plan.distinct)
