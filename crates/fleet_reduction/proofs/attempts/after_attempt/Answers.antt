-- After an attempt the state has the cheaper plan and the number of the step after the attempt. The size is halved
-- if the attempt's plan leaves requests unplanned and the plan before did not.
use Rattle.std.proofs.Common.{◌∙◌, ◌/◌, ◌&&◌, cond, not, ap}
use Rattle.plan_types.specs.Cost.{cost_at_most}
use Rattle.plan_types.specs.declared.plans.Plan.{Plan}
use Rattle.route_sched.specs.Cost.{cost_of}
use Rattle.fleet_reduction.specs.Fleets.{put_back}
use Rattle.fleet_reduction.specs.ReductionStates.{attempts_by}
use Rattle.fleet_reduction.specs.Attempts.{serves_all}
use Rattle.fleet_reduction.proofs.AttemptLemmas.{after_attempt_is, chosen_routes}
use Rattle.fleet_reduction.proofs.attempts.after_attempt.Goals as goal

pub returns : goal.returns
returns g c pins end has =
    let p = c.args.problem.now in
    let t = c.args.attempts in
    let subfleet = c.args.subfleet.now in
    let found = c.in_ok-put_back.field-0 in
    let found_is = c.in_ok-put_back.ensures ∙ ap (put_back subfleet) c.as_slice.ensures in
    let taken =
    ap (λ (l : Plan). l.routes) c.cheaper.ensures
    ∙ (chosen_routes (cost_at_most (cost_of p found) (cost_of p t.plan.routes)) (record { routes = found }) t.plan
    ∙ ap (λ f. cond (cost_at_most (cost_of p f) (cost_of p t.plan.routes)) f t.plan.routes) found_is) in
    let sized =
    c.next_size-size.ensures
    ∙ (ap (λ f. cond (c.serves_all-whole.result && not (serves_all p f)) (t.size / 2) t.size) found_is
    ∙ ap (λ w. cond (w && not (serves_all p (put_back subfleet c.args.attempt.plan.routes))) (t.size / 2) t.size) c.serves_all-whole.ensures) in
    after_attempt_is p pins c.cheaper.result.routes (attempts_by t) subfleet end c.args.attempt.plan.routes c.args.attempt.step c.next_size-size.result has.plan has.step taken sized
