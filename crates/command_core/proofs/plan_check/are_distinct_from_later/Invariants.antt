-- No stop occurs twice if none of the remaining stops occurs again, here or in a later route
use Rattle.std.proofs.Common.{◌≡◌, ◌++◌, length}
use Rattle.std.specs.List.{concat}
use Rattle.plan_audit.specs.Passes.{are_distinct}
use Rattle.command_core.proofs.plan_check.are_distinct_from_later.Given as goal

abbrev pub invariant-loop-left : goal.invariant-loop-left
invariant-loop-left l = are_distinct (l.left ++ concat l.later) ≡ are_distinct (l.route ++ concat l.later)

abbrev pub decreases-loop-left : goal.decreases-loop-left
decreases-loop-left l = length l.left
