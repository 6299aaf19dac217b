-- The names collected so far, followed by those of the movable requests of the remaining stops, are the names
-- for all stops.
use Rattle.std.proofs.Common.{◌≡◌, ◌++◌, drop}
use Rattle.move_ops.specs.Drafts.{draft_of}
use Rattle.anneal_search.specs.Strings.{movable_of}
use Rattle.anneal_search.proofs.strings.movable_of.Given as goal

abbrev pub invariant-loop-stop : goal.invariant-loop-stop
invariant-loop-stop l = l.names.items ++ movable_of l.problem l.pins.routes (draft_of l.draft) (drop l.stop-index l.stops) ≡ movable_of l.problem l.pins.routes (draft_of l.draft) l.stops
