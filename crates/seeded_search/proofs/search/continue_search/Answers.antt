-- One more step leads to a search state from which the remaining steps find the plans that all steps find.
use Rattle.std.proofs.Common.{rules, ◌<◌, ap, arith}
use Rattle.seeded_search.specs.Generator.{NextStep}
use Rattle.seeded_search.specs.Steps.{candidate, after_candidate_if_any, step, steps, SearchPlans}
use Rattle.seeded_search.specs.SearchStates.{search_plans_of}
use Rattle.seeded_search.proofs.SearchLemmas.{walked_more}
use Rattle.seeded_search.proofs.search.continue_search.Goals as goal

pub loop-done-preserved : goal.loop-done-preserved
unfolding step steps
loop-done-preserved c =
    let p = c.args.context.now.problem.now in
    let pins = c.args.context.now.pins.now.routes in
    let within : c.loop-done.done < c.args.count = search rules in
    record {
      seed = search rules;
      step = omega (arith, c.loop-done.invariant.step, ap (λ (w : NextStep). w.step) c.next_step.ensures.after);
      search_state = c.in_ok-step.ensures.search_state;
      left = walked_more (λ words (s : SearchPlans). after_candidate_if_any p c.args.context.now.deviation s
          (candidate p pins s.working words)) c.args.context.now.seed c.args.step c.args.count c.loop-done.done (search_plans_of c.loop-done.search_state) (search_plans_of c.step.new.self)
          c.next_step.result c.loop-done.words.seed c.loop-done.words.step (steps p pins c.args.context.now.deviation c.args.context.now.seed c.args.step c.args.count (search_plans_of c.args.search_state)) c.loop-done.invariant.left
          within c.next_step.ensures.words c.loop-done.invariant.seed c.loop-done.invariant.step c.in_ok-step.ensures.search_plans;
    }
