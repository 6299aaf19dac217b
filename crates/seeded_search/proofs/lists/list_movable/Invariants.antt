-- The names collected so far, followed by those of the remaining movable requests, are the names of all movable
-- requests.
use Rattle.std.proofs.Common.{◌≡◌, ◌++◌, drop}
use Rattle.move_ops.specs.Moves.{is_movable}
use Rattle.move_ops.specs.Drafts.{draft_of}
use Rattle.seeded_search.specs.Names.{names_where}
use Rattle.seeded_search.specs.Steps.{movable_names}
use Rattle.seeded_search.proofs.lists.list_movable.Given as goal

abbrev pub invariant-loop-index : goal.invariant-loop-index
invariant-loop-index l =
    l.names.items ++ names_where (is_movable l.pins.routes (draft_of l.draft)) (drop l.index l.problem.requests) ≡ movable_names l.problem l.pins.routes (draft_of l.draft)
