-- The text so far, followed by that of the remaining lines, is the whole text.
use Rattle.std.proofs.Common.{◌≡◌, ◌+◌, ◌++◌, drop}
use Rattle.plan_explain.specs.Summaries.{route_lines}
use Rattle.plan_explain.proofs.summaries.put_routes.Given as goal

abbrev pub invariant-loop-route : goal.invariant-loop-route
invariant-loop-route l = l.text ++ route_lines l.kind (l.route + 1) (drop l.route l.summaries) ≡ l.fn.text ++ route_lines l.fn.kind 1 l.summaries
