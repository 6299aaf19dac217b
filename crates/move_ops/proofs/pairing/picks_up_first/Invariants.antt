-- Among the remaining stops each pickup comes first exactly when it does among all. So the first delivery ahead
-- of its pickup decides, and at the end all pickups come first.
use Rattle.std.proofs.Common.{◌≡◌, length}
use Rattle.plan_audit.specs.Passes.{picks_up_first}
use Rattle.move_ops.proofs.pairing.picks_up_first.Given as goal

abbrev pub invariant-loop-left : goal.invariant-loop-left
invariant-loop-left l = picks_up_first l.problem l.left ≡ picks_up_first l.problem l.route

abbrev pub decreases-loop-left : goal.decreases-loop-left
decreases-loop-left l = length l.left
