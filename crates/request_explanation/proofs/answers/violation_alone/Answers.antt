-- A request alone is a route of known stops.
use Rattle.std.proofs.Common.{◌≡◌, IfOk, subst, sym}
use Rattle.request_explanation.specs.LimitViolations.{violation_of}
use Rattle.request_explanation.specs.Why.{alone_route}
use Rattle.request_explanation.proofs.answers.violation_alone.Goals as goal

pub returns-in-Pair : goal.returns-in-Pair
returns-in-Pair c = subst (λ r. IfOk c.violation_of-in-Pair.result (λ violation. violation ≡ violation_of c.args.problem.now (alone_route r))) (sym c.in-Pair.is) c.violation_of-in-Pair.ensures
