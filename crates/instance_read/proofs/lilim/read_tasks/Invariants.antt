-- The tasks so far are read without a fault, and the rest has the other tasks and the first fault.
use Rattle.std.proofs.Common.{◌≡◌, ◌++◌, map, None}
use Rattle.std.specs.List.{last_or}
use Rattle.instance_read.specs.declared.faults.ReadFault.{ReadFault}
use Rattle.instance_read.specs.Pairs.{task_in}
use Rattle.instance_read.specs.TaskFaults.{HasNoStopFault, IsFirstStopFault, LinesAbove}
use Rattle.instance_read.proofs.lilim.read_tasks.Given as goal

-- the lines so far are read and have no fault; what is true for the rest is true for all lines
abbrev pub invariant-loop-line : goal.invariant-loop-line
invariant-loop-line g l = record {
  tasks : l.tasks.items ++ map (task_in l.scale) l.line-iterator ≡ map (task_in l.scale) l.fn.lines;
  above : LinesAbove 0 l.line-iterator;
  none : HasNoStopFault l.limits (last_or None l.tasks.items) l.line-iterator → HasNoStopFault l.limits None l.fn.lines;
  first : (f : ReadFault) → IsFirstStopFault l.limits (last_or None l.tasks.items) l.line-iterator f → IsFirstStopFault l.limits None l.fn.lines f;
}
