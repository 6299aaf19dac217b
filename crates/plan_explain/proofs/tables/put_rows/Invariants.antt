-- The text so far, followed by that of the remaining rows, is the whole text.
use Rattle.std.proofs.Common.{◌≡◌, ◌++◌, drop}
use Rattle.std.specs.List.{flat_map}
use Rattle.plan_explain.specs.Tables.{row_text}
use Rattle.plan_explain.proofs.tables.put_rows.Given as goal

abbrev pub invariant-loop-visit : goal.invariant-loop-visit
invariant-loop-visit l = l.text ++ flat_map (row_text l.problem) (drop l.visit-index l.visits) ≡ l.fn.text ++ flat_map (row_text l.problem) l.visits
