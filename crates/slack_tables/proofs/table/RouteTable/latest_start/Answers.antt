-- The latest start at a place is the greatest from which no later window is missed, for each route with this
-- course.
use Rattle.std.proofs.Common.{◌∙◌, ap, subst, sym, arith}
use Rattle.slack_tables.specs.declared.progress.PlaceSlack.{PlaceSlack}
use Rattle.slack_tables.specs.Latest.{IsLatestStart}
use Rattle.slack_tables.specs.ForwardPass.{at_depot, forward_row}
use Rattle.slack_tables.proofs.ReadLemmas.{latest-read}
use Rattle.slack_tables.proofs.table.RouteTable.latest_start.Goals as goal

pub returns-in-LiLim : goal.returns-in-LiLim
returns-in-LiLim c = λ p route is.
    (let long = c.rows-places.ensures.known.long in
    let d = forward_row (at_depot c.args.self.now.depot) in
    subst (λ (e : PlaceSlack). IsLatestStart p route c.args.place e.latest_start) (sym (c.row_at.ensures d))
    (latest-read c.args.self.now c.rows-places.result.now c.rows-places.ensures.known p route is c.args.place d
    (sym (ap (λ q. q.kind) c.self.view_is) ∙ c.in-LiLim.is) (omega arith)))
