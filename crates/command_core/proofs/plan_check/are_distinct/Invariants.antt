-- No stop occurs twice if none of the remaining ones does
use Rattle.std.proofs.Common.{◌≡◌, length}
use Rattle.std.specs.List.{concat}
use Rattle.plan_audit.specs.Passes.{are_distinct}
use Rattle.command_core.proofs.plan_check.are_distinct.Given as goal

abbrev pub invariant-loop-left : goal.invariant-loop-left
invariant-loop-left l = are_distinct (concat l.left) ≡ are_distinct (concat l.routes)

abbrev pub decreases-loop-left : goal.decreases-loop-left
decreases-loop-left l = length l.left
