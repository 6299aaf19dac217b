-- All stops are known and distinct exactly if the remaining ones are.
use Rattle.std.proofs.Common.{◌≡◌, length}
use Rattle.test_plan.proofs.LiveLemmas.{live_once}
use Rattle.test_plan.proofs.tests.builders.are_distinct_in_any_order.Given as goal

abbrev pub invariant-loop-left : goal.invariant-loop-left
invariant-loop-left l = live_once l.problem l.left ≡ live_once l.problem l.stops

abbrev pub decreases-loop-left : goal.decreases-loop-left
decreases-loop-left l = length l.left
