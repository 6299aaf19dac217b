-- The new stops so far, and the counterparts of the remaining stops, are the counterparts of the whole route.
use Rattle.std.proofs.Common.{◌≡◌, ◌++◌, map, drop}
use Rattle.move_ops.specs.Moves.{counterpart}
use Rattle.move_ops.proofs.swap.counterparts.Given as goal

abbrev pub invariant-loop-stop : goal.invariant-loop-stop
invariant-loop-stop l = l.new ++ map (counterpart l.first l.second) (drop l.stop-index l.route) ≡ map (counterpart l.first l.second) l.route
