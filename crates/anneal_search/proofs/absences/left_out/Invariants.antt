-- The names collected so far, followed by the remaining names that the plan leaves out, are all names that it
-- leaves out.
use Rattle.std.proofs.Common.{◌≡◌, ◌++◌, drop}
use Rattle.move_ops.specs.Drafts.{draft_of}
use Rattle.anneal_search.specs.Absences.{left_out}
use Rattle.anneal_search.proofs.absences.left_out.Given as goal

abbrev pub invariant-loop-name : goal.invariant-loop-name
invariant-loop-name l = l.left.items ++ left_out l.problem (draft_of l.draft) (drop l.name-index l.names) ≡ left_out l.problem (draft_of l.draft) l.names
