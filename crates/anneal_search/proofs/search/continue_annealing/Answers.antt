-- After one more annealing step, the remaining steps lead to the result of all steps. If no step remains, the
-- result is reached
use Rattle.std.proofs.Common.{rules, ◌≡◌, ◌+◌, ◌-◌, ◌<◌, sym, ap, ◌∙◌, arith}
use Rattle.seeded_search.specs.Generator.{NextStep}
use Rattle.seeded_search.specs.SearchStates.{search_plans_of}
use Rattle.seeded_search.proofs.SearchLemmas.{walked_more}
use Rattle.anneal_search.specs.Annealing.{SearchPlans, annealed_by, candidate, anneal_step, anneal_steps}
use Rattle.anneal_search.proofs.search.continue_annealing.Goals as goal

pub loop-done-preserved : goal.loop-done-preserved
unfolding anneal_step anneal_steps
loop-done-preserved c =
    let p = c.args.context.now.problem.now in
    let pins = c.args.context.now.pins.now.routes in
    let within : c.loop-done.done < c.args.count = search rules in
    record {
      seed = search rules;
      step = omega (arith, c.loop-done.invariant.step, ap (λ (w : NextStep). w.step) c.next_step.ensures.after);
      annealing = c.in_ok-step.ensures.annealing;
      left = walked_more (λ words (s : SearchPlans). annealed_by p c.args.context.now.deviation s
          (candidate p pins s.working words)) c.args.context.now.seed c.args.step c.args.count c.loop-done.done (search_plans_of c.loop-done.annealing.search_state)
          (search_plans_of c.step.new.self.search_state)
          c.next_step.result c.loop-done.words.seed c.loop-done.words.step
          (anneal_steps p pins c.args.context.now.deviation c.args.context.now.seed c.args.step c.args.count (search_plans_of c.args.search_state)) c.loop-done.invariant.left
          within c.next_step.ensures.words c.loop-done.invariant.seed c.loop-done.invariant.step c.in_ok-step.ensures.search_plans;
    }

pub returns-clause-search_plans : goal.returns-clause-search_plans
unfolding anneal_steps
returns-clause-search_plans c =
    let p = c.args.context.now.problem.now in
    let pins = c.args.context.now.pins.now.routes in
    let none : c.args.count - c.loop-done.done ≡ 0 = search rules in
    ap (λ left. anneal_steps p pins c.args.context.now.deviation c.args.context.now.seed (c.args.step + c.loop-done.done) left (search_plans_of c.loop-done.annealing.search_state)) (sym none) ∙ c.loop-done.invariant.left
