-- The stop at a place of the table is the stop at this place of each route with this course.
use Rattle.std.proofs.Common.{◌∙◌, ap}
use Rattle.slack_tables.specs.ForwardPass.{at_depot, forward_row}
use Rattle.slack_tables.specs.declared.progress.PlaceSlack.{PlaceSlack}
use Rattle.slack_tables.proofs.ReadLemmas.{stop-read}
use Rattle.slack_tables.proofs.table.RouteTable.stop.Goals as goal

pub returns-clause-stop : goal.returns-clause-stop
returns-clause-stop c = λ p route is.
    (let d = forward_row (at_depot c.args.self.now.depot) in
    ap (λ (e : PlaceSlack). e.at.stop) (c.small_row.ensures.place d)
    ∙ stop-read c.args.self.now c.rows-places.result.now c.rows-places.ensures.known p route is c.args.index d c.requires)
