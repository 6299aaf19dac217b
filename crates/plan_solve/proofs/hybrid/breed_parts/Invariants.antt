-- The planner has a job that the search may leave, and the lines so far and the remaining ones make up the progress
-- lines.
use Rattle.std.proofs.Common.{◌≡◌, ◌-◌}
use Rattle.command_types.specs.Job.{JobValue}
use Rattle.command_types.specs.declared.states.State.TheVariants.{Loaded}
use Rattle.plan_solve.proofs.HybridLemmas.{IsBreeding}
use Rattle.plan_solve.proofs.hybrid.breed_parts.Given as goal

abbrev pub invariant-loop-parts : goal.invariant-loop-parts
invariant-loop-parts g l =
    (begun : JobValue) → l.fn.planner ≡ Loaded begun → begun.plan ≡ l.fn.built.routes
    → IsBreeding begun l.fn.iterations (g.W.Write.contents l.fn.progress) (g.W.Write.contents l.progress) l.is_written l.planner l.done l.parts

abbrev pub decreases-loop-parts : goal.decreases-loop-parts
decreases-loop-parts g l = 20 - l.parts
