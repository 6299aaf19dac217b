-- The distance of the route with the pickup is the distance of the route with the detour.
use Rattle.std.proofs.Common.{◌∙◌, ◌-◌, ap, sym, arith}
use Rattle.route_sched.specs.Schedule.{route_length}
use Rattle.request_explanation.proofs.InsertionLemmas.{distance_reported}
use Rattle.request_explanation.proofs.trials.distance_with_pickup.Goals as goal

pub returns-in-Some : goal.returns-in-Some
returns-in-Some c =
    let p = c.args.problem.now in
    let picked = c.requires.picked in
    distance_reported p c.args.base.now (c.args.place - 1) c.requires.base (omega (arith, c.if-place-gt1.true)) (omega (arith, c.requires.within.0, c.requires.within.1))
    c.of-detour.result c.of-detour.ensures picked.number picked.is c.in-Some.distance c.in-Some.ensures ∙ ap (route_length p) (sym picked.put)
