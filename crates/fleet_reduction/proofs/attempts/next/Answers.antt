-- The attempt's vehicles are valid. Its plan, put back for all vehicles, has current stops, each once. The state
-- after the attempt is that of the definition.
use Rattle.std.proofs.Common.{rules, ◌≡◌, ◌∙◌, Some, sym, ap, subst}
use Rattle.std.specs.List.{concat}
use Rattle.std.proofs.lemmas.Result.{IfOk-weaker}
use Rattle.route_sched.specs.Route.{AreDistinctStops}
use Rattle.fleet_reduction.specs.Fleets.{put_back}
use Rattle.fleet_reduction.specs.ReductionStates.{IsSubfleet, attempts_by}
use Rattle.fleet_reduction.specs.Attempts.{after_attempt, subfleet, serves_all, limit, attempt}
use Rattle.fleet_reduction.proofs.AttemptLemmas.{back_passes, below_of, crew_is, next_is, plan_of_passing, size_of}
use Rattle.fleet_reduction.proofs.attempts.next.Goals as goal

pub serves_all-whole-requires : goal.serves_all-whole-requires
serves_all-whole-requires g c = plan_of_passing c.args.context.now.problem.now c.args.context.now.pins.now.routes c.args.attempts.plan.routes c.requires.between.plan

pub run_attempt-requires-clause-subfleet : goal.run_attempt-requires-clause-subfleet
run_attempt-requires-clause-subfleet g c =
    let p = c.args.context.now.problem.now in
    let pins = c.args.context.now.pins.now.routes in
    let t = attempts_by c.args.attempts in
    let found : subfleet c.args.context.now.problem.now c.args.context.now.pins.now.routes (attempts_by c.args.attempts) ≡ Some c.in-Some.subfleet.items = search rules in
    subst (IsSubfleet p pins t) (sym c.deref.ensures.value)
    (crew_is p pins c.requires.pins.0 t c.requires.between.plan (size_of p pins c.args.end t c.requires.on) c.requires.pins.1 c.in-Some.subfleet.items found)

pub after_attempt-requires-clause-plan : goal.after_attempt-requires-clause-plan
after_attempt-requires-clause-plan g c = plan_of_passing c.args.context.now.problem.now c.args.context.now.pins.now.routes c.args.attempts.plan.routes c.requires.between.plan

pub after_attempt-requires-clause-found : goal.after_attempt-requires-clause-found
after_attempt-requires-clause-found g c =
    let p = c.args.context.now.problem.now in
    let pins = c.args.context.now.pins.now.routes in
    let t = attempts_by c.args.attempts in
    let marks = c.in-Some.subfleet.items in
    let found : subfleet c.args.context.now.problem.now c.args.context.now.pins.now.routes (attempts_by c.args.attempts) ≡ Some c.in-Some.subfleet.items = search rules in
    let laws = below_of c.picked_pass.ensures.picked c.picked_pass.ensures.back c.attempts_keep_passing.ensures.passing c.attempts_keep_passing.ensures.short in
    let back = back_passes laws p pins c.requires.pins.0 c.requires.pins.1 c.args.context.now.seed c.args.count c.args.end t c.requires.between.plan c.requires.on marks found in
    let until = c.limit-last.ensures.limit ∙ ap (λ w. limit w c.args.count c.args.end t) c.serves_all-whole.ensures in
    let routes = c.in_ok-attempt.ensures.plan ∙ (ap (λ n. (attempt p pins c.args.context.now.seed n t c.deref.result.now).incumbent) until
    ∙ ap (λ ks. (attempt p pins c.args.context.now.seed (limit (serves_all p t.plan) c.args.count c.args.end t) t ks).incumbent) c.deref.ensures.value) in
    let same = ap (λ ks. put_back ks c.in_ok-attempt.attempt.plan.routes) c.deref-2.ensures.value ∙ ap (put_back marks) routes in
    subst (λ l. AreDistinctStops p (concat l)) (sym same) (plan_of_passing p pins _ back)

pub returns : goal.returns
returns g c =
    let p = c.args.context.now.problem.now in
    let pins = c.args.context.now.pins.now.routes in
    let t = attempts_by c.args.attempts in
    let marks = c.in-Some.subfleet.items in
    let found : subfleet c.args.context.now.problem.now c.args.context.now.pins.now.routes (attempts_by c.args.attempts) ≡ Some c.in-Some.subfleet.items = search rules in
    let ended = attempt p pins c.args.context.now.seed c.limit-last.result t c.deref.result.now in
    IfOk-weaker c.after_attempt.result _ _
    (λ r is. next_is p pins c.args.context.now.seed c.args.count c.args.end t (attempts_by r) marks c.limit-last.result c.serves_all-whole.result found c.serves_all-whole.ensures c.limit-last.ensures.limit
    (is pins ended c.in_ok-attempt.ensures ∙ (ap (λ ks. after_attempt p pins t ks ended) c.deref-2.ensures.value
    ∙ ap (λ ks. after_attempt p pins t marks (attempt p pins c.args.context.now.seed c.limit-last.result t ks)) c.deref.ensures.value)))
    c.after_attempt.ensures
