-- The request that has a stop is stored under its name.
use Rattle.plan_types.proofs.LawProofs.{requests_are_stored_by_name}
use Rattle.plan_types.proofs.laws.requests_are_stored_by_name.Goals as goal

pub returns : goal.returns
returns c = requests_are_stored_by_name
