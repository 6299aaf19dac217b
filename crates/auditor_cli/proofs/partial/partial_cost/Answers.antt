-- If the rules on stops are kept, the routes form a plan.
use Rattle.std.proofs.Common.{◌≡◌, rules, subst, true, []}
use Rattle.plan_audit.specs.Verdict.{IsVerdict, planned}
use Rattle.plan_audit.proofs.StepLemmas.{plan_from}
use Rattle.auditor_cli.specs.Partial.{keeps_stops}
use Rattle.auditor_cli.proofs.PartialLemmas.{stops_kept}
use Rattle.auditor_cli.proofs.partial.partial_cost.Goals as goal

pub plan_cost-cost-requires : goal.plan_cost-cost-requires
plan_cost-cost-requires c =
    let problem = c.args.problem.now in
    let routes = c.args.plan.now.routes in
    let verdict = c.in_ok-verdict.verdict in
    let kept : keeps_stops verdict ≡ true = search rules in
    let is : IsVerdict problem (planned routes []) verdict = subst (λ pins. IsVerdict problem (planned routes pins) verdict) c.new.ensures c.in_ok-verdict.ensures in
    plan_from problem (planned routes []) (stops_kept problem routes verdict is kept)
