-- Each row from the current place on has its latest arrival.
use Rattle.request_explanation.specs.LatestArrivals.{AreLatestArrivalsFrom}
use Rattle.request_explanation.proofs.latest_arrivals.fill_latest_arrivals.Given as goal

abbrev pub invariant-loop-k : goal.invariant-loop-k
invariant-loop-k l = AreLatestArrivalsFrom l.k l.rows l.latest_arrivals
