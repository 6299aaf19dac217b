-- The remaining operations lead to the result of all operations. The lines so far and the remaining ones make up
-- the progress lines.
use Rattle.std.proofs.Common.{◌≡◌, length}
use Rattle.command_types.specs.Job.{JobValue}
use Rattle.command_types.specs.declared.states.State.TheVariants.{Loaded}
use Rattle.command_text.specs.Answering.{commands_of}
use Rattle.plan_solve.proofs.AnnealLemmas.{IsAnnealing}
use Rattle.plan_solve.proofs.annealing.anneal_by_stages.Given as goal

abbrev pub invariant-loop-command : goal.invariant-loop-command
invariant-loop-command g l =
    (begun : JobValue) → l.fn.planner ≡ Loaded begun → IsAnnealing begun l.fn.steps (g.W.Write.contents l.fn.progress) (g.W.Write.contents l.progress) l.reported l.planner l.left

abbrev pub decreases-loop-command : goal.decreases-loop-command
decreases-loop-command g l = length (commands_of l.left l.planner)
