-- Inserting the remaining requests into the draft leads to the plan after all requests are inserted
use Rattle.std.proofs.Common.{◌≡◌, drop}
use Rattle.move_ops.specs.Drafts.{draft_of, IsDraftOf}
use Rattle.seeded_search.specs.Steps.{placed_all}
use Rattle.command_core.proofs.insertion.placed_all.Given as goal

abbrev pub invariant-loop-name : goal.invariant-loop-name
invariant-loop-name l = record {
  is : IsDraftOf l.problem l.pins.routes l.draft;
  rest : placed_all l.problem l.pins.routes (draft_of l.draft) (drop l.name-index l.names) ≡ placed_all l.problem l.pins.routes l.fn.plan.routes l.names;
}
