-- The remaining annealing steps lead from the plans so far to the result of all steps
use Rattle.std.proofs.Common.{◌≡◌, ◌+◌, ◌-◌}
use Rattle.seeded_search.specs.SearchStates.{search_plans_of}
use Rattle.anneal_search.specs.Annealing.{anneal_steps}
use Rattle.anneal_search.specs.StepLoops.{IsAnnealing}
use Rattle.anneal_search.proofs.search.continue_annealing.Given as goal

abbrev pub invariant-loop-done : goal.invariant-loop-done
invariant-loop-done l = record {
  seed : l.words.seed ≡ l.context.seed;
  step : l.words.step ≡ l.step + l.done;
  annealing : IsAnnealing l.context.problem.now l.context.pins.now.routes l.annealing;
  left : anneal_steps l.context.problem.now l.context.pins.now.routes l.context.deviation l.context.seed (l.step + l.done) (l.count - l.done) (search_plans_of l.annealing.search_state)
      ≡ anneal_steps l.context.problem.now l.context.pins.now.routes l.context.deviation l.context.seed l.step l.count (search_plans_of l.fn.search_state);
}
