-- A place is in the list of a request's insertions exactly when the request can be inserted there.
use Rattle.move_ops.proofs.Places.{insertions_are_feasible}
use Rattle.move_ops.proofs.laws.insertions_are_feasible.Goals as goal

pub returns : goal.returns
returns c = insertions_are_feasible
