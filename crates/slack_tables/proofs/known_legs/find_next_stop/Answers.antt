-- If the stop at the next place of the table has the next number of the route, it is the problem's stop with
-- this number.
use Rattle.std.proofs.Common.{◌+◌, subst, sym}
use Rattle.slack_tables.specs.TableCursor.{IsStopAt}
use Rattle.slack_tables.specs.declared.progress.PlaceSlack.{PlaceSlack}
use Rattle.slack_tables.proofs.known_legs.find_next_stop.Goals as goal

pub returns-then-is_next-clause-value : goal.returns-then-is_next-clause-value
returns-then-is_next-clause-value c =
    let p = c.args.problem.now in
    let route = c.args.route.now in
    let next = c.requires.next c.if-is_next.true in
    let row = c.row_at.result.now in
    (subst (λ (e : PlaceSlack). IsStopAt p route (c.args.k + 1) e.at.stop) (sym (c.row_at.ensures row))
    (c.requires.stops route (c.args.cursor.now.place + 1) c.args.k row c.requires.depot next.within (next.number row))).stop

pub returns-then-is_next-clause-visit : goal.returns-then-is_next-clause-visit
returns-then-is_next-clause-visit c =
    let p = c.args.problem.now in
    let route = c.args.route.now in
    let next = c.requires.next c.if-is_next.true in
    let row = c.row_at.result.now in
    (subst (λ (e : PlaceSlack). IsStopAt p route (c.args.k + 1) e.at.stop) (sym (c.row_at.ensures row))
    (c.requires.stops route (c.args.cursor.now.place + 1) c.args.k row c.requires.depot next.within (next.number row))).visit
