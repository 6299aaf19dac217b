-- The length is greater than each number of the tasks so far.
use Rattle.std.proofs.Common.{◌<◌, ℕ, get_or}
use Rattle.instance_read.specs.declared.tasks.Task.{Task}
use Rattle.instance_read.proofs.pairs.table_len.Given as goal

-- the length is greater than the numbers so far
abbrev pub invariant-loop-task : goal.invariant-loop-task
invariant-loop-task l = (k : ℕ) (d : Task) → k < l.task-index → (get_or l.tasks k d).stop.number < l.len
