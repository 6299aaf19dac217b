-- The services so far, followed by those by the remaining vehicles, are all services.
use Rattle.std.proofs.Common.{◌≡◌, ◌+◌, ◌++◌, drop}
use Rattle.request_explanation.specs.Why.{services_from}
use Rattle.request_explanation.proofs.answers.put_services.Given as goal

abbrev pub invariant-loop-place : goal.invariant-loop-place
invariant-loop-place l = l.text ++ services_from l.problem l.request (l.place + 1) (drop l.place l.routes) ≡ l.fn.text ++ services_from l.problem l.request 1 l.routes
