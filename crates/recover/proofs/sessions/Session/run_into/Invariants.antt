-- The commands so far are a run with their replies, and there is room for the other replies.
use Rattle.std.proofs.Common.{◌≡◌, ◌++◌, ◌+◌, ◌≤◌, length}
use Rattle.std.specs.Vec.{vec_capacity}
use Rattle.std.specs.Vec.Iter.{into_iter_items, into_iter_len}
use Rattle.recover.specs.Applying.{IsRun}
use Rattle.recover.proofs.sessions.Session.run_into.Given as goal

abbrev pub invariant-loop-command : goal.invariant-loop-command
invariant-loop-command g l =
    let d = g.D.Sectors in
    (l.yielded ++ into_iter_items l.command-iterator ≡ into_iter_items l.initial.command-iterator)
    × IsRun d.len d.calls d.faults d.honest d.clock d.possible_since d.possible l.initial.self l.yielded l.replies.items l.self
    × (into_iter_len l.command-iterator ≡ length (into_iter_items l.command-iterator))
    × (length l.replies.items + length (into_iter_items l.command-iterator) ≤ vec_capacity l.replies)
