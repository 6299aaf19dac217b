-- A table whose course is of this problem has the right states after shared prefixes, and the problem's stops.
use Rattle.slack_tables.proofs.table.RouteTable.keeps_limits.Goals as goal

pub drive_route-requires-clause-prefixes : goal.drive_route-requires-clause-prefixes
drive_route-requires-clause-prefixes c = c.rows.ensures.prefixes c.args.problem.now c.requires.near

pub drive_route-requires-clause-stops : goal.drive_route-requires-clause-stops
drive_route-requires-clause-stops c = c.rows.ensures.stops c.args.problem.now c.requires.near
