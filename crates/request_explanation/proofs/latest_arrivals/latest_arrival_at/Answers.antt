-- A row's latest arrival is the smaller of its own limit, and the latest arrival at the next row less the time
-- from start to arrival.
use Rattle.std.proofs.Common.{◌+◌, ◌<◌, length, get_or, pos, arith}
use Rattle.plan_explain.specs.declared.rows.Row.{Row}
use Rattle.request_explanation.proofs.LatestArrivalLemmas.{latest_next}
use Rattle.request_explanation.proofs.latest_arrivals.latest_arrival_at.Goals as goal

pub returns-clause-late : goal.returns-clause-late
returns-clause-late c = λ arrival change later.
    let rows = c.args.rows.now in
    let k = c.args.index in
    let none : Row = record { place = 0; stop = 0; arrival = 0; start = 0; earliest = 0; latest = 0; load = pos 0 } in
    let below : k + 1 < length rows = omega (arith, c.requires.within, c.if-index-rows.false) in
    latest_next rows k (get_or c.args.latest_arrivals.now (k + 1) 0) none none below (c.requires.following.each (k + 1) 0 (omega arith) below) arrival change
    (omega (arith, later, c.min.ensures, c.from-latest.ensures, c.saturating_sub.ensures, c.saturating_sub-way.ensures))
