-- The table leads to each task from this place to the last.
use Rattle.std.proofs.Common.{◌≡◌, ◌<◌, ℕ, length, drop, get_or, None}
use Rattle.std.specs.Prelude.{◌==◌}
use Rattle.std.specs.List.{All, position_from}
use Rattle.instance_read.proofs.pairs.task_table.Given as goal

-- the tasks from this place on are in the table
abbrev pub invariant-loop-place : goal.invariant-loop-place
invariant-loop-place l = record {
  fits : All (λ task. task.stop.number < length l.table.items) l.tasks;
  table : (n : ℕ) → get_or l.table.items n None ≡ position_from (λ t. t.stop.number == n) l.place (drop l.place l.tasks);
}
