-- The text so far, followed by that of the remaining places, is the whole text.
use Rattle.std.proofs.Common.{◌≡◌, ◌+◌, ◌++◌, drop}
use Rattle.plan_explain.specs.Tables.{stop_rows}
use Rattle.plan_explain.proofs.tables.put_stop_rows.Given as goal

abbrev pub invariant-loop-place : goal.invariant-loop-place
invariant-loop-place l = l.text ++ stop_rows (l.place + 1) (drop l.place l.route) ≡ l.fn.text ++ stop_rows 1 l.route
