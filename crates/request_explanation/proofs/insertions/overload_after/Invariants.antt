-- The first overloaded row among the remaining rows is the first of all.
use Rattle.std.proofs.Common.{◌≡◌, drop}
use Rattle.request_explanation.specs.LimitViolations.{overload_in}
use Rattle.request_explanation.specs.Insertions.{with_load_change}
use Rattle.request_explanation.proofs.insertions.overload_after.Given as goal

abbrev pub invariant-loop-row : goal.invariant-loop-row
invariant-loop-row l = overload_in l.capacity (with_load_change l.change (drop l.row-index l.rows)) ≡ overload_in l.capacity (with_load_change l.change l.rows)
