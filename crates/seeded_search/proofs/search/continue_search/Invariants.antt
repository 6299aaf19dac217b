-- The remaining steps find, from the plans so far, the plans that all steps find.
use Rattle.std.proofs.Common.{◌≡◌, ◌+◌, ◌-◌}
use Rattle.seeded_search.specs.Steps.{steps}
use Rattle.seeded_search.specs.SearchStates.{IsSearchState, search_plans_of}
use Rattle.seeded_search.proofs.search.continue_search.Given as goal

abbrev pub invariant-loop-done : goal.invariant-loop-done
invariant-loop-done l = record {
  seed : l.words.seed ≡ l.context.seed;
  step : l.words.step ≡ l.step + l.done;
  search_state : IsSearchState l.context.problem.now l.context.pins.now.routes l.search_state;
  left : steps l.context.problem.now l.context.pins.now.routes l.context.deviation l.context.seed (l.step + l.done) (l.count - l.done) (search_plans_of l.search_state)
      ≡ steps l.context.problem.now l.context.pins.now.routes l.context.deviation l.context.seed l.step l.count (search_plans_of l.fn.search_state);
}
