-- The problem has the requests of the tasks so far, and otherwise has not changed.
use Rattle.std.proofs.Common.{◌≡◌, take}
use Rattle.std.specs.List.{filter_map}
use Rattle.instance_read.specs.Pairs.{pair_of}
use Rattle.instance_read.proofs.pairs.put_pairs.Given as goal

-- the requests of the tasks so far are added
abbrev pub invariant-loop-task : goal.invariant-loop-task
invariant-loop-task l =
    l.problem ≡ record l.fn.problem { requests = filter_map (pair_of l.tasks) (take l.task-index l.tasks); next_number = l.problem.next_number }
