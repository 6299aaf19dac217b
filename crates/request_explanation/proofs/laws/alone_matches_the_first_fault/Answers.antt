-- The limit that a request alone exceeds is the auditor's first fault of its route.
use Rattle.request_explanation.proofs.FaultLemmas.{alone_matches}
use Rattle.request_explanation.proofs.laws.alone_matches_the_first_fault.Goals as goal

pub returns : goal.returns
returns c = alone_matches c.requests_are_found_by_stop.ensures c.requests_are_stored_by_name.ensures c.feasible_alone_decides_feasibility.ensures
