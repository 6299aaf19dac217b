-- The list has the summaries of the routes so far.
use Rattle.std.proofs.Common.{◌≡◌, map, take}
use Rattle.plan_explain.specs.Summaries.{summary_of}
use Rattle.plan_explain.proofs.summaries.summaries.Given as goal

abbrev pub invariant-loop-route : goal.invariant-loop-route
invariant-loop-route l = l.summaries.items ≡ map (summary_of l.problem) (take l.route-index l.routes)
