-- The start at a place of the table is the start at this place of each route with this course.
use Rattle.std.proofs.Common.{◌∙◌, ap}
use Rattle.slack_tables.specs.ForwardPass.{at_depot, forward_row}
use Rattle.slack_tables.specs.declared.progress.PlaceSlack.{PlaceSlack}
use Rattle.slack_tables.proofs.ReadLemmas.{start-read}
use Rattle.slack_tables.proofs.table.RouteTable.start.Goals as goal

pub returns : goal.returns
returns c = λ p route is.
    (let d = forward_row (at_depot c.args.self.now.depot) in
    ap (λ (e : PlaceSlack). e.at.start) (c.row_at.ensures d)
    ∙ start-read c.args.self.now c.rows-places.result.now c.rows-places.ensures.known p route is c.args.place d c.requires)
