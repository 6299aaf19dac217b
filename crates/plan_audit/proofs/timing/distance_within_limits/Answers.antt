-- An empty route keeps the limits and has distance 0. For any other route all visits are checked and all legs
-- summed.
use Rattle.std.proofs.Common.{rules, ◌≡◌, length, sym, ap, ◌∙◌, arith}
use Rattle.route_sched.proofs.Steps.{route_length-empty}
use Rattle.route_sched.proofs.VisitLemmas.{all_visits}
use Rattle.plan_audit.proofs.DriveLemmas.{legs, legs_of_route, kept_visits, kept_idle}
use Rattle.plan_audit.proofs.timing.distance_within_limits.Goals as goal

pub returns-then-is_empty-clause-kept : goal.returns-then-is_empty-clause-kept
returns-then-is_empty-clause-kept c =
    let none : length c.args.route.now ≡ 0 = search rules in kept_idle c.args.problem.now c.args.route.now none

pub returns-then-is_empty-clause-length : goal.returns-then-is_empty-clause-length
returns-then-is_empty-clause-length c =
    let none : length c.args.route.now ≡ 0 = search rules in sym (route_length-empty c.args.problem.now c.args.route.now none)

pub loop-visit-init : goal.loop-visit-init
loop-visit-init c =
    let p = c.args.problem.now in
    let route = c.args.route.now in
    let all = all_visits c.into_iter-visit-iterator.result p route (c.into_iter-visit-iterator.ensures.into_iter_gives ∙ c.new-visit-items.ensures) in
    record { way = omega (arith, ap legs all ∙ legs_of_route p route); kept = kept_visits p route _ all }
