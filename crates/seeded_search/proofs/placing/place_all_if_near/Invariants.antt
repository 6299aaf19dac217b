-- Inserting the remaining requests into the draft so far makes the plan with all requests. `following` is the
-- number of the remaining requests, and `rest` the greatest distance that they can save.
use Rattle.std.proofs.Common.{◌≡◌, ◌+◌, drop, length}
use Rattle.std.specs.Prelude.{sum_by}
use Rattle.move_ops.specs.Drafts.{base_of, draft_of, IsDraftOf}
use Rattle.move_ops.specs.Savings.{max_saving}
use Rattle.seeded_search.specs.Steps.{placed_all}
use Rattle.seeded_search.proofs.placing.place_all_if_near.Given as goal

abbrev pub invariant-loop-name : goal.invariant-loop-name
invariant-loop-name l = record {
  is : IsDraftOf l.context.problem.now l.context.pins.now.routes l.draft;
  base : base_of l.draft ≡ base_of l.fn.draft;
  left : placed_all l.context.problem.now l.context.pins.now.routes (draft_of l.draft) (drop l.name-index l.names) ≡ placed_all l.context.problem.now l.context.pins.now.routes (draft_of l.fn.draft) l.names;
  following : l.following + l.name-index ≡ length l.names;
  rest : l.rest ≡ sum_by (max_saving l.context.problem.now) (drop l.name-index l.names);
}
