-- The names collected so far, followed by those of the remaining unplanned requests, are the names of all
-- unplanned requests.
use Rattle.std.proofs.Common.{◌≡◌, ◌++◌, not, drop}
use Rattle.route_sched.specs.Cost.{is_planned}
use Rattle.move_ops.specs.Drafts.{draft_of}
use Rattle.seeded_search.specs.Names.{names_where}
use Rattle.seeded_search.specs.Steps.{unplanned_names}
use Rattle.seeded_search.proofs.lists.list_unplanned.Given as goal

abbrev pub invariant-loop-index : goal.invariant-loop-index
invariant-loop-index l = l.names.items ++ names_where (λ r. not (is_planned (draft_of l.draft) r)) (drop l.index l.problem.requests) ≡ unplanned_names l.problem (draft_of l.draft)
