-- The names found so far and those of the remaining requests make up the result
use Rattle.std.proofs.Common.{◌≡◌, ◌++◌, not, drop}
use Rattle.seeded_search.specs.Names.{names_where}
use Rattle.command_core.specs.Marks.{is_marked}
use Rattle.command_core.proofs.marks.unmarked_names.Given as goal

abbrev pub invariant-loop-index : goal.invariant-loop-index
invariant-loop-index l =
    l.names.items ++ names_where (λ r. not (is_marked l.planned r)) (drop l.index l.problem.requests) ≡ names_where (λ r. not (is_marked l.planned r)) l.problem.requests
