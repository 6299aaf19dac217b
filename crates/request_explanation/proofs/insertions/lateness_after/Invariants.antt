-- The first late row among the remaining rows, with their delay, is the first late row of all.
use Rattle.std.proofs.Common.{◌≡◌, drop, pos}
use Rattle.plan_types.specs.declared.requests.Kind.TheVariants.{LiLim}
use Rattle.request_explanation.specs.LimitViolations.{lateness_in}
use Rattle.request_explanation.specs.MovedRows.{moved_from}
use Rattle.request_explanation.proofs.insertions.lateness_after.Given as goal

abbrev pub invariant-loop-row : goal.invariant-loop-row
invariant-loop-row l = lateness_in LiLim (moved_from l.left l.had_left (pos 0) (drop l.row-index l.rows)) ≡ lateness_in LiLim (moved_from l.fn.now l.fn.before (pos 0) l.rows)
