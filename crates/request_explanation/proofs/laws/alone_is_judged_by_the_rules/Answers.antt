-- A request alone exceeds no limit exactly if its route is feasible alone.
use Rattle.request_explanation.proofs.AloneLemmas.{alone_is_judged}
use Rattle.request_explanation.proofs.laws.alone_is_judged_by_the_rules.Goals as goal

pub returns : goal.returns
returns c = alone_is_judged c.requests_are_found_by_stop.ensures c.requests_are_stored_by_name.ensures c.feasible_alone_decides_feasibility.ensures
