-- Each stop of the route is in the box, so a property of all stops in the box holds for it.
use Rattle.std.proofs.Common.{◌<◌, subst, arith}
use Rattle.nint_dist.specs.Distance.{distance}
use Rattle.slack_tables.specs.TableFields.{AreKnown}
use Rattle.slack_tables.specs.ForwardPass.{at_depot, forward_row}
use Rattle.slack_tables.proofs.CourseLemmas.{long-on}
use Rattle.slack_tables.proofs.ReadLemmas.{stop-read}
use Rattle.slack_tables.proofs.table.RouteTable.is_beyond.Goals as goal

pub returns : goal.returns
returns c = λ holds p route is k low high.
    (let table : AreKnown c.args.self.now c.self.inside.places.items = subst (λ q. AreKnown q c.self.inside.places.items) c.self.view_is c.self.invariant.0 in
    let d = forward_row (at_depot c.self.inside.depot) in
    let span = c.self.invariant.1 in
    let long = long-on p route c.args.self.now is in
    subst (λ s. c.args.reach < distance c.args.center.now s) (stop-read c.args.self.now c.self.inside.places.items table p route is k d (omega arith))
    (c.is_beyond.ensures holds _ (span.within.inside k d low (omega arith))))
