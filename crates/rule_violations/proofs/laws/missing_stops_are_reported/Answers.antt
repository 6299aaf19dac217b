-- The stops in no route are those that rule 3 reports, at the place of their partner or by their request.
use Rattle.rule_violations.proofs.StopLemmas.{missing_reported}
use Rattle.rule_violations.proofs.laws.missing_stops_are_reported.Goals as goal

pub returns : goal.returns
returns c =
    λ p routes n valid. missing_reported c.requests_are_found_by_stop.ensures c.requests_are_stored_by_name.ensures
    c.numbers_are_below_next_number.ensures.stops p routes valid n
