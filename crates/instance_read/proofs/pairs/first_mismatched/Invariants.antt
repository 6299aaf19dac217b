-- No task so far is mismatched, so the first mismatched task of the rest is the first of all.
use Rattle.std.proofs.Common.{◌≡◌, drop}
use Rattle.std.specs.Prelude.{find}
use Rattle.instance_read.specs.Pairs.{is_mismatched}
use Rattle.instance_read.proofs.pairs.first_mismatched.Given as goal

-- no task so far is mismatched
abbrev pub invariant-loop-task : goal.invariant-loop-task
invariant-loop-task l = find (is_mismatched l.tasks) (drop l.task-index l.tasks) ≡ find (is_mismatched l.tasks) l.tasks
