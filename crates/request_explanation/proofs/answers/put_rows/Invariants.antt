-- The services so far, followed by those among the remaining rows, are all services.
use Rattle.std.proofs.Common.{◌≡◌, ◌++◌, drop}
use Rattle.request_explanation.specs.Why.{services_in}
use Rattle.request_explanation.proofs.answers.put_rows.Given as goal

abbrev pub invariant-loop-row : goal.invariant-loop-row
invariant-loop-row l = l.text ++ services_in l.problem.kind l.request l.vehicle (drop l.row-index l.rows) ≡ l.fn.text ++ services_in l.problem.kind l.request l.vehicle l.rows
