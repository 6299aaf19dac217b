-- The stops of the next tour get a hint, so a number without one is a stop of the later tours or of none.
use Rattle.std.proofs.Common.{rules, ◌≡◌, ◌∙◌, [], get_or, sym, ap, arith}
use Rattle.std.proofs.lemmas.List.{get_or-map, length-map}
use Rattle.slack_tables.specs.Course.{course_route}
use Rattle.move_ops.specs.Tables.{plan_of}
use Rattle.move_ops.proofs.HintLemmas.{hints_more}
use Rattle.move_ops.proofs.tours.set_hints_of_tours.Goals as goal

pub loop-tour-preserved : goal.loop-tour-preserved
loop-tour-preserved c =
    let k = c.loop-tour.tour-index in
    let tours = c.args.tours.now in
    let here : get_or tours k c.tour-item.result ≡ c.tour-item.result = search rules in
    let stops : c.stops.result.now ≡ get_or (plan_of tours) k [] =
    c.stops.ensures ∙ (ap course_route (sym here) ∙ sym (get_or-map course_route tours k c.tour-item.result [] (omega arith))) in
    record {
      vehicle_hints =
          hints_more c.loop-tour.vehicle_hints c.set_hints.new.vehicle_hints (plan_of tours) k c.stops.result.now
          (omega (arith, length-map tours course_route)) stops c.loop-tour.invariant.vehicle_hints c.set_hints.ensures.stops c.set_hints.ensures.others;
      len = c.set_hints.ensures.len ∙ c.loop-tour.invariant.len;
      vehicle = c.next-vehicle.ensures;
    }
