-- A distance is at least each of its sides along the axes.
use Rattle.std.proofs.Common.{◌≤◌, ◌*◌, ◌+◌, arith}
use Rattle.slack_tables.proofs.SpanLemmas.{side-le}
use Rattle.slack_tables.proofs.span.longer_side.Goals as goal

pub returns-clause-below : goal.returns-clause-below
returns-clause-below c = λ e reach.
    (let x : c.args.dx ≤ e = side-le c.args.dx c.args.dy e reach in
    let turned : c.args.dy * c.args.dy + c.args.dx * c.args.dx ≤ e * (e + 1) = omega (arith, reach) in
    let y : c.args.dy ≤ e = side-le c.args.dy c.args.dx e turned in
    omega (arith, c.max.ensures))
