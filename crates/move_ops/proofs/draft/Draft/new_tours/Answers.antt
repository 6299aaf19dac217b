-- The tour of one more change is appended.
use Rattle.std.proofs.Common.{◌∙◌, ap}
use Rattle.slack_tables.specs.Course.{course_of}
use Rattle.move_ops.proofs.TourLemmas.{tours_more}
use Rattle.move_ops.proofs.draft.Draft.new_tours.Goals as goal

pub loop-change-preserved : goal.loop-change-preserved
loop-change-preserved c =
    let p = c.args.problem.now in
    let is = c.loop-change.invariant in
    let made = c.in_ok-tour.ensures in
    record {
      tours =
          tours_more p c.args.changes.now c.loop-change.change-index c.change-item.result c.loop-change.tours.items c.push.new.self.items
          c.in_ok-tour.tour c.change-item.is c.loop-change-test.true
          (made.course ∙ ap (course_of p) c.as_slice.ensures) (made.route ∙ c.as_slice.ensures) c.in_ok-push.ensures.items is.tours;
      same = made.same ∙ is.same;
    }
