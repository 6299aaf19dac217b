-- The restarts so far led to this device, and there is room for the runs of the remaining ones.
use Rattle.std.proofs.Common.{◌≡◌, ◌++◌, ◌+◌, ◌≤◌, length}
use Rattle.std.specs.Vec.{vec_capacity}
use Rattle.std.specs.Vec.Iter.{into_iter_items, into_iter_len}
use Rattle.recover.specs.Restarts.{AreRestarts}
use Rattle.recover.proofs.restarts.run_restarts.Given as goal

abbrev pub invariant-loop-restart : goal.invariant-loop-restart
invariant-loop-restart l =
    (l.yielded ++ into_iter_items l.restart-iterator ≡ into_iter_items l.initial.restart-iterator)
    × AreRestarts l.initial.left l.yielded l.runs.items l.left
    × (into_iter_len l.restart-iterator ≡ length (into_iter_items l.restart-iterator))
    × (length l.runs.items + length (into_iter_items l.restart-iterator) ≤ vec_capacity l.runs)
