-- All remaining routes are feasible alone exactly when all routes are. So the first that isn't decides for all,
-- and at the end all are.
use Rattle.std.proofs.Common.{◌≡◌, drop}
use Rattle.std.specs.List.{list_all}
use Rattle.plan_audit.specs.Passes.{feasible_alone}
use Rattle.move_ops.proofs.changes.are_all_feasible.Given as goal

abbrev pub invariant-loop-change : goal.invariant-loop-change
invariant-loop-change l =
    list_all (λ c. feasible_alone l.problem c.route) (drop l.change-index l.changes)
    ≡ list_all (λ c. feasible_alone l.problem c.route) l.changes
