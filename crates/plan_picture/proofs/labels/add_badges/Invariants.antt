-- Adding the remaining route numbers to the labels so far leads to the labels with all route numbers.
use Rattle.std.proofs.Common.{◌≡◌, ◌+◌, drop}
use Rattle.plan_picture.specs.Labels.{with_badges}
use Rattle.plan_picture.proofs.labels.add_badges.Given as goal

abbrev pub invariant-loop-index : goal.invariant-loop-index
invariant-loop-index l =
    let s = l.scene in
    with_badges s.problem.now l.frame l.labels.items (s.first + l.index) (drop l.index s.routes.now) ≡ with_badges s.problem.now l.frame l.fn.labels.items s.first s.routes.now
