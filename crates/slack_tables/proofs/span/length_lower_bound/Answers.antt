-- A distance is at least each of its components along two directions, so it is at least the greater of them.
use Rattle.std.proofs.Common.{arith}
use Rattle.slack_tables.proofs.SpanLemmas.{ways-le, sides-le}
use Rattle.slack_tables.proofs.span.length_lower_bound.Goals as goal

pub returns-clause-below : goal.returns-clause-below
returns-clause-below c = λ e reach.
    (let sides = sides-le c.args.dx c.args.dy c.max-long.result c.min-short.result e
    (λ less. (omega (arith, c.max-long.ensures), omega (arith, c.min-short.ensures)))
    (λ more. (omega (arith, c.max-long.ensures), omega (arith, c.min-short.ensures))) reach in
    let le = ways-le c.max-long.result c.min-short.result e sides in
    omega (arith, c.max.ensures))
