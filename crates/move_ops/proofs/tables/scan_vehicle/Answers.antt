-- A vehicle that is ruled out by a loose bound has no insertion that is better than the best so far, which is
-- kept.
use Rattle.std.proofs.Common.{w64, length, sym, ap, subst, inl, arith}
use mir.Val.{SFits}
use Rattle.std.proofs.lemmas.Int.{to_z-of_z}
use Rattle.slack_tables.specs.Course.{Course}
use Rattle.slack_tables.specs.RequestFloors.{AreFloors}
use Rattle.slack_tables.specs.FitsNowhere.{FitsNowhere}
use Rattle.move_ops.specs.Insertion.{route_of}
use Rattle.move_ops.proofs.ChoiceLemmas.{passed_over}
use Rattle.move_ops.proofs.tables.scan_vehicle.Goals as goal

pub returns-then-rules_out_with-clause-scanned : goal.returns-then-rules_out_with-clause-scanned
returns-then-rules_out_with-clause-scanned c =
    let vehicle = c.args.vehicle in
    let limit = c.args.terms.now.limit.now in
    let p = c.args.terms.now.problem.now in
    let r = c.args.request.now in
    let kept = length (route_of c.args.terms.now.pins.now vehicle.number) in
    let below : SFits w64 c.args.below = record { sfits = c.ranges.below.sfits } in
    let stays = to_z-of_z w64 c.args.below below in
    let out : FitsNowhere vehicle.tour.now r c.args.below = subst (λ q. FitsNowhere q r c.args.below) c.table.ensures
    (subst (FitsNowhere c.table.result.now r) stays (c.rules_out_with.ensures c.if-rules_out_with.true)) in
    inl (passed_over p r vehicle.tour.now kept vehicle.number limit c.args.best.now c.args.below c.requires.vehicle.problem
    c.requires.vehicle.course c.requires.vehicle.request
    (λ none. c.if-stop_count-ne0.true (let count = c.stop_count.ensures.count in omega arith)) out c.requires.below)

pub rules_out_with-requires : goal.rules_out_with-requires
rules_out_with-requires c =
    subst (λ (q : Course). AreFloors q.depot c.args.request.now c.args.ways.now) (sym c.table.ensures)
    (subst (λ d. AreFloors d c.args.request.now c.args.ways.now) (ap (λ (q : Course). q.depot) c.requires.vehicle.course) c.requires.vehicle.ways.floors)
