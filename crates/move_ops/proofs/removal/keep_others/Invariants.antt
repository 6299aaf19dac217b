-- The stops kept so far, followed by those to be kept of the remaining ones, are the stops of other requests in
-- the whole route.
use Rattle.std.proofs.Common.{◌≡◌, ◌++◌, not, filter, drop}
use Rattle.move_ops.specs.Moves.{is_of_named}
use Rattle.move_ops.proofs.removal.keep_others.Given as goal

abbrev pub invariant-loop-stop : goal.invariant-loop-stop
invariant-loop-stop l =
    l.kept.items ++ filter (λ n. not (is_of_named l.problem l.names n)) (drop l.stop-index l.route)
    ≡ filter (λ n. not (is_of_named l.problem l.names n)) l.route
