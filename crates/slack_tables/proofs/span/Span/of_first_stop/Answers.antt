-- The first stop is in its own bounding box, and the depot legs and the load are those of the route's ends.
use Rattle.std.proofs.Common.{w32, w64, ap, ◌∙◌, arith}
use mir.Val.{SFits}
use Rattle.std.proofs.lemmas.Int.{ints, to_z-of_z}
use Rattle.slack_tables.specs.declared.progress.PlaceSlack.{PlaceSlack}
use Rattle.slack_tables.proofs.SpanLemmas.{span-of_first_stop}
use Rattle.slack_tables.proofs.span.Span.of_first_stop.Goals as goal

pub returns-clause-within : goal.returns-clause-within
returns-clause-within c =
    let first = c.small_row-first.ensures.small.at.visit in
    let load = c.small_row-end.ensures.small.at.load in
    let longest_depot_leg = c.longest_depot_leg.ensures.small in
    let fx : SFits w32 c.small_row-first.result.now.at.stop.x = record { sfits = omega (arith, ints) } in
    let fy : SFits w32 c.small_row-first.result.now.at.stop.y = record { sfits = omega (arith, ints) } in
    let ft : SFits w64 c.longest_depot_leg.result = record { sfits = omega (arith, ints) } in
    let fo : SFits w64 c.small_row-end.result.now.at.load = record { sfits = omega (arith, ints) } in
    rw (
      to_z-of_z w32 c.small_row-first.result.now.at.stop.x fx,
      to_z-of_z w32 c.small_row-first.result.now.at.stop.y fy,
      to_z-of_z w64 c.longest_depot_leg.result ft,
      to_z-of_z w64 c.small_row-end.result.now.at.load fo,
    )
    (span-of_first_stop c.args.places.now c.small_row-first.result.now c.longest_depot_leg.result c.small_row-end.result.now.at.load
    c.small_row-first.ensures.place longest_depot_leg
    (omega arith))

pub returns-clause-ends : goal.returns-clause-ends
returns-clause-ends c =
    let load = c.small_row-end.ensures.small.at.load in
    let longest_depot_leg = c.longest_depot_leg.ensures.small in
    let ft : SFits w64 c.longest_depot_leg.result = record { sfits = omega (arith, ints) } in
    let fo : SFits w64 c.small_row-end.result.now.at.load = record { sfits = omega (arith, ints) } in
    record {
      first = λ d. rw (to_z-of_z w64 c.longest_depot_leg.result ft) (c.longest_depot_leg.ensures.first d);
      last = λ d. rw (to_z-of_z w64 c.longest_depot_leg.result ft) (c.longest_depot_leg.ensures.last d);
      load = λ d. to_z-of_z w64 c.small_row-end.result.now.at.load fo ∙ ap (λ (e : PlaceSlack). e.at.load) (c.small_row-end.ensures.place d);
    }
