-- The remaining steps of the search lead to the result of the whole search.
use Rattle.std.proofs.Common.{◌≡◌}
use Rattle.command_core.specs.Effects.{effect}
use Rattle.command_types.specs.declared.commands.Command.TheVariants.{Search}
use Rattle.plan_solve.proofs.search.search.Given as goal

abbrev pub invariant-loop-left : goal.invariant-loop-left
invariant-loop-left l = effect l.planner (Search l.left) ≡ effect l.fn.planner (Search l.fn.steps)

abbrev pub decreases-loop-left : goal.decreases-loop-left
decreases-loop-left l = l.left
