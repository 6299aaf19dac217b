-- All routes are feasible if the remaining ones are
use Rattle.std.proofs.Common.{◌≡◌, drop}
use Rattle.std.specs.List.{list_all}
use Rattle.plan_audit.specs.Passes.{feasible_alone}
use Rattle.command_core.proofs.plan_check.are_feasible.Given as goal

abbrev pub invariant-loop-route : goal.invariant-loop-route
invariant-loop-route l = list_all (feasible_alone l.problem) (drop l.route-index l.routes) ≡ list_all (feasible_alone l.problem) l.routes
