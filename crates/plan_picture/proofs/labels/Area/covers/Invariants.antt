-- The remaining labels lead to the same result as all labels.
use Rattle.std.proofs.Common.{◌≡◌, drop}
use Rattle.plan_picture.specs.Labels.{covers}
use Rattle.plan_picture.proofs.labels.Area.covers.Given as goal

abbrev pub invariant-loop-label : goal.invariant-loop-label
invariant-loop-label l = covers l.self (drop l.label-index l.labels) ≡ covers l.self l.labels
