-- Adding the remaining stop numbers to the labels so far leads to the labels with all stop numbers.
use Rattle.std.proofs.Common.{◌≡◌, drop}
use Rattle.plan_picture.specs.Labels.{with_numbers}
use Rattle.plan_picture.proofs.labels.add_numbers.Given as goal

abbrev pub invariant-loop-stop : goal.invariant-loop-stop
invariant-loop-stop l = with_numbers l.frame l.labels.items (drop l.stop-index l.stops) ≡ with_numbers l.frame l.fn.labels.items l.stops
