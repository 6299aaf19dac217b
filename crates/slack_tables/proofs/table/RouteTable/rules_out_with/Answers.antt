-- A single or a pair that the span rules out fits nowhere for less than the bound, in each route with this
-- course.
use Rattle.std.proofs.Common.{◌∙◌, ◌≤◌, None, Some, sym, ap, subst, w64}
use mir.Val.{SFits}
use Rattle.std.proofs.lemmas.Int.{to_z-of_z}
use Rattle.nint_dist.specs.Distance.{distance}
use Rattle.slack_tables.specs.RequestFloors.{AreFloors, AreFloorsOfPair}
use Rattle.slack_tables.specs.Best.{IsFirstOf, IsBestAddition}
use Rattle.slack_tables.specs.Course.{Course, course_route}
use Rattle.slack_tables.specs.TableFields.{AreKnown, course_within}
use Rattle.slack_tables.specs.ForwardPass.{at_depot, forward_row}
use Rattle.slack_tables.specs.Scan.{AddsSingle, AddsPair}
use Rattle.slack_tables.specs.Span.{IsFarPair, RulesOut}
use Rattle.slack_tables.proofs.BestLemmas.{single-best, pair-best, linked}
use Rattle.slack_tables.proofs.InsertLemmas.{limits_of}
use Rattle.slack_tables.proofs.SpanLemmas.{to_depot, laden, far-pair}
use Rattle.slack_tables.proofs.table.RouteTable.rules_out_with.Goals as goal

pub returns-in-Single : goal.returns-in-Single
returns-in-Single c = λ holds p name kept valid is named.
    (let course = c.args.self.now in
    let places = c.self.inside.places.items in
    let inside = c.self.inside in
    let table : AreKnown course places = subst (λ q. AreKnown q places) c.self.view_is c.self.invariant.0 in
    let d = forward_row (at_depot c.in-Single.stop) in
    let s = c.in-Single.stop in
    let fits : SFits w64 c.args.below = record { sfits = c.ranges.below.sfits } in
    let floors = subst (λ r. AreFloors course.depot r c.args.ways.now) c.in-Single.is c.requires in
    let near : c.args.ways.now.to_depot ≤ distance inside.depot s =
    subst (λ (q : Course). c.args.ways.now.to_depot ≤ distance q.depot s) (sym c.self.view_is) floors.below in
    let out = subst (λ x. RulesOut inside.limits inside.span inside.depot s x) (to_z-of_z w64 c.args.below fits)
    (c.rules_out_single.ensures holds inside.depot near) in
    let none = out places kept d c.self.invariant.1 (laden course places table) (to_depot (course_within inside) places c.self.invariant.0) in
    let first = subst (λ (q : Course). IsFirstOf (AddsSingle (limits_of q) places s kept c.args.below d) None) c.self.view_is none in
    subst (λ r. IsBestAddition p (course_route course) r kept c.args.below None) (sym c.in-Single.is)
    (single-best p course places table valid is c.requests_are_found_by_stop.ensures name kept c.args.below d s None
    (named ∙ ap (λ r. Some r) c.in-Single.is) first))

pub returns-in-Pair : goal.returns-in-Pair
returns-in-Pair c = λ holds p name kept valid is named.
    (let course = c.args.self.now in
    let places = c.self.inside.places.items in
    let inside = c.self.inside in
    let table : AreKnown course places = subst (λ q. AreKnown q places) c.self.view_is c.self.invariant.0 in
    let d = forward_row (at_depot c.in-Pair.pickup) in
    let a = c.in-Pair.pickup in
    let b = c.in-Pair.delivery in
    let fits : SFits w64 c.args.below = record { sfits = c.ranges.below.sfits } in
    let floors = subst (λ r. AreFloors course.depot r c.args.ways.now) c.in-Pair.is c.requires in
    let near : AreFloorsOfPair inside.depot a b c.args.ways.now = subst (λ (q : Course). AreFloorsOfPair q.depot a b c.args.ways.now)
    (sym c.self.view_is) floors.below in
    let far = subst (λ x. IsFarPair inside.span inside.depot a b x) (to_z-of_z w64 c.args.below fits) (c.is_far_pair.ensures holds inside.depot near) in
    let none = far-pair inside.limits places inside.depot a b kept c.args.below d inside.span
    (linked course places table) c.self.invariant.1 (to_depot (course_within inside) places c.self.invariant.0) far in
    let first = subst (λ (q : Course). IsFirstOf (AddsPair (limits_of q) places a b kept c.args.below d) None) c.self.view_is none in
    subst (λ r. IsBestAddition p (course_route course) r kept c.args.below None) (sym c.in-Pair.is)
    (pair-best p course places table valid is c.requests_are_found_by_stop.ensures name kept c.args.below d a b None
    (named ∙ ap (λ r. Some r) c.in-Pair.is) first))
