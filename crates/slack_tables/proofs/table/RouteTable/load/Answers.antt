-- The load at a place of the table is the load at this place of each route with this course.
use Rattle.std.proofs.Common.{rules, w64, ◌∙◌, ap}
use Rattle.std.proofs.lemmas.Int.{to_z-of_z}
use Rattle.slack_tables.specs.ForwardPass.{at_depot, forward_row}
use Rattle.slack_tables.specs.declared.progress.PlaceSlack.{PlaceSlack}
use Rattle.slack_tables.proofs.ReadLemmas.{load-read}
use Rattle.slack_tables.proofs.table.RouteTable.load.Goals as goal

pub returns : goal.returns
returns c = λ p route is.
    (let d = forward_row (at_depot c.args.self.now.depot) in
    to_z-of_z w64 c.load_at.result (search rules)
    ∙ (c.load_at.ensures
    ∙ (ap (λ (e : PlaceSlack). e.at.load) (c.row_at.ensures d)
    ∙ load-read c.args.self.now c.rows-places.result.now c.rows-places.ensures.known p route is c.args.place d c.requires)))
