-- A single with a greater demand exceeds the capacity at the route's end, so it fits nowhere.
use Rattle.std.proofs.Common.{◌<ℤ◌, rules, None, subst, w64}
use mir.Val.{SFits}
use Rattle.std.proofs.lemmas.Int.{to_z-of_z}
use Rattle.slack_tables.specs.Best.{IsFirstOf}
use Rattle.slack_tables.specs.Course.{Course}
use Rattle.slack_tables.specs.TableFields.{AreKnown}
use Rattle.slack_tables.specs.ForwardPass.{at_depot, forward_row}
use Rattle.slack_tables.specs.Scan.{AddsSingle}
use Rattle.slack_tables.proofs.BestLemmas.{single-best}
use Rattle.slack_tables.proofs.InsertLemmas.{limits_of}
use Rattle.slack_tables.proofs.SpanLemmas.{full-single, laden}
use Rattle.slack_tables.proofs.table.RouteTable.max_demand.Goals as goal

pub returns : goal.returns
returns c = λ s below over p name kept valid is named.
    (let places = c.self.inside.places.items in
    let table : AreKnown c.args.self.now places = subst (λ q. AreKnown q places) c.self.view_is c.self.invariant.0 in
    let fits : SFits w64 c.max_demand.result = search rules in
    let more = subst (λ x. x <ℤ s.demand) (to_z-of_z w64 c.max_demand.result fits) over in
    let d = forward_row (at_depot s) in
    let none = full-single c.self.inside.limits places s kept below d c.self.inside.span c.self.invariant.1
    (laden c.args.self.now places table) (c.max_demand.ensures s.demand more) in
    let first = subst (λ (q : Course). IsFirstOf (AddsSingle (limits_of q) places s kept below d) None) c.self.view_is none in
    single-best p c.args.self.now places table valid is c.requests_are_found_by_stop.ensures name kept below d s None named first)
