-- All numbers belong to stops and ascend exactly if the remaining ones do.
use Rattle.std.proofs.Common.{◌≡◌, drop}
use Rattle.test_plan.proofs.AscendingLemmas.{rises_live}
use Rattle.test_plan.proofs.tests.builders.are_ascending_stops.Given as goal

abbrev pub invariant-loop-number : goal.invariant-loop-number
invariant-loop-number l = rises_live l.problem l.last (drop l.number-index l.numbers) ≡ rises_live l.problem 0 l.numbers
