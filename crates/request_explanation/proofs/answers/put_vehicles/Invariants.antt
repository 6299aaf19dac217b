-- The lines so far, followed by those of the remaining vehicles, are all lines.
use Rattle.std.proofs.Common.{◌≡◌, ◌+◌, ◌++◌, drop}
use Rattle.request_explanation.specs.Why.{vehicles_from}
use Rattle.request_explanation.proofs.answers.put_vehicles.Given as goal

abbrev pub invariant-loop-place : goal.invariant-loop-place
invariant-loop-place l = l.text ++ vehicles_from l.lead l.problem l.pins l.request (l.place + 1) (drop l.place l.routes) ≡ l.fn.text ++ vehicles_from l.lead l.problem l.pins l.request 1 l.routes
