-- The first late row among the remaining rows is the first of all.
use Rattle.std.proofs.Common.{◌≡◌, drop}
use Rattle.plan_types.specs.declared.requests.Kind.TheVariants.{LiLim}
use Rattle.request_explanation.specs.LimitViolations.{lateness_in}
use Rattle.request_explanation.proofs.limit_violations.first_lateness.Given as goal

abbrev pub invariant-loop-row : goal.invariant-loop-row
invariant-loop-row l = lateness_in LiLim (drop l.row-index l.rows) ≡ lateness_in LiLim l.rows
