-- Adding the remaining marks to the labels so far leads to the labels with all marks.
use Rattle.std.proofs.Common.{◌≡◌, drop}
use Rattle.plan_picture.specs.Labels.{with_marks}
use Rattle.plan_picture.proofs.labels.add_each_mark.Given as goal

abbrev pub invariant-loop-stop : goal.invariant-loop-stop
invariant-loop-stop l = with_marks l.frame l.labels.items (drop l.stop-index l.stops) ≡ with_marks l.frame l.fn.labels.items l.stops
