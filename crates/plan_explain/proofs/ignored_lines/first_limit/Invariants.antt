-- The remaining lines lead to the same result as all lines, and they are few enough to be counted.
use Rattle.std.proofs.Common.{◌≡◌, ◌+◌, ◌≤◌, length}
use Rattle.text_lines.specs.Lines.{lines_of}
use Rattle.plan_explain.specs.IgnoredLimits.{limit_from}
use Rattle.plan_explain.proofs.ignored_lines.first_limit.Given as goal

abbrev pub invariant-loop-line : goal.invariant-loop-line
invariant-loop-line l = record {
  few : l.number + length l.line-iterator ≤ length l.text;
  rest : limit_from (l.number + 1) l.line-iterator ≡ limit_from 1 (lines_of l.text);
}
