-- The rounds so far led to this device, and there is room for the runs of the remaining ones.
use Rattle.std.proofs.Common.{◌≡◌, ◌++◌, ◌+◌, ◌≤◌, length}
use Rattle.std.specs.Vec.{vec_capacity}
use Rattle.std.specs.Vec.Iter.{into_iter_items, into_iter_len}
use Rattle.recover.specs.Rounds.{AreRounds}
use Rattle.recover.proofs.rounds.run_rounds.Given as goal

abbrev pub invariant-loop-round : goal.invariant-loop-round
invariant-loop-round l =
    (l.yielded ++ into_iter_items l.round-iterator ≡ into_iter_items l.initial.round-iterator)
    × AreRounds l.initial.left l.yielded l.runs.items l.left
    × (into_iter_len l.round-iterator ≡ length (into_iter_items l.round-iterator))
    × (length l.runs.items + length (into_iter_items l.round-iterator) ≤ vec_capacity l.runs)
