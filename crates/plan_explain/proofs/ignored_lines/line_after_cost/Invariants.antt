-- The remaining lines, before or after the cost line, lead to the same result as all lines.
use Rattle.std.proofs.Common.{◌≡◌, ◌+◌, ◌≤◌, length}
use Rattle.plan_explain.specs.AfterCost.{line_after_cost}
use Rattle.plan_explain.proofs.AfterCostLemmas.{first_nonblank_from}
use Rattle.plan_explain.proofs.ignored_lines.line_after_cost.Given as goal

abbrev pub invariant-loop-line : goal.invariant-loop-line
invariant-loop-line l = record {
  few : l.number + length l.line-iterator ≤ length l.text;
  rest : first_nonblank_from l.is_later (l.number + 1) l.line-iterator ≡ line_after_cost l.text;
}
