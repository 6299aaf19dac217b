-- Each number of a request is below the next number, so the next number and all greater numbers are free.
use Rattle.plan_types.proofs.LawProofs.{requests_are_below_next, found_are_below_next, stops_are_below_next, fresh_are_free}
use Rattle.plan_types.proofs.laws.numbers_are_below_next_number.Goals as goal

pub returns : goal.returns
returns c = record { requests = requests_are_below_next; found = found_are_below_next; stops = stops_are_below_next; fresh = fresh_are_free }
