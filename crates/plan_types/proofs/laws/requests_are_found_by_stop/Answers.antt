-- A request that is stored under a name is found by lookups of each of its numbers.
use Rattle.plan_types.proofs.LawProofs.{named_are_found}
use Rattle.plan_types.proofs.laws.requests_are_found_by_stop.Goals as goal

pub returns : goal.returns
returns c = named_are_found
