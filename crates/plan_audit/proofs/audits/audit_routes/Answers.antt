-- The verdict on routes depends first on their stops, loads and times, then on the number of vehicles. If these
-- rules hold, the routes pass, whatever cost is printed.
use Rattle.std.proofs.Common.{◌≡◌, ℕ, List, Option, sym, ap, subst, ◌∙◌, arith}
use Rattle.plan_types.specs.Instance.{Instance}
use Rattle.plan_audit.specs.FirstFault.{first_route_beyond, first_unserved}
use Rattle.plan_audit.specs.Verdict.{printed, IsBrokenWithin, IsVerdictWithin}
use Rattle.plan_audit.specs.declared.rules.Verdict.TheVariants.{Pass}
use Rattle.plan_audit.proofs.StepLemmas.{fleet_step, fleet_kept}
use Rattle.plan_audit.proofs.VerdictLemmas.{broken_wider, broken_verdict}
use Rattle.plan_audit.proofs.audits.audit_routes.Goals as goal
use Rattle.plan_audit.proofs.audits.audit_routes.Goals.{After-first_unserved, In-Ok}

-- the request found is the first that must be served and is not
asked : (c : After-first_unserved) → c.first_unserved.result ≡ first_unserved c.args.routes.now c.in_ok-scan.scan.problem.now.requests
asked c = c.first_unserved.ensures ∙ ap (λ (l : List (List ℕ)). first_unserved l c.in_ok-scan.scan.problem.now.requests) c.in_ok-scan.ensures.made.1

-- the cost of the routes if rules 1 to 8 hold
judged : (c : In-Ok) (printed_cost : ℕ) → IsVerdictWithin 1 8 c.args.problem.now (printed c.args.routes.now printed_cost) (Pass c.in-Ok.cost)
judged c printed_cost =
    let s = printed c.args.routes.now printed_cost in
    subst (λ (p : Instance). IsVerdictWithin 1 8 p s (Pass c.in-Ok.cost)) c.in_ok-scan.ensures.made.0
    (c.in-Ok.ensures.judged s (sym c.in_ok-scan.ensures.made.1) (asked (goal.at.In-Ok c).After-first_unserved))

pub returns-in-Err : goal.returns-in-Err
returns-in-Err c = λ printed_cost.
    let p = c.args.problem.now in
    let s = printed c.args.routes.now printed_cost in
    broken_verdict p s 1 10 c.in-Err.broken
    (broken_wider p s 1 8 10 c.in-Err.broken (omega arith)
    (subst (λ (q : Instance). IsBrokenWithin 1 8 q s c.in-Err.broken) c.in_ok-scan.ensures.made.0
    (c.in-Err.ensures.judged s (sym c.in_ok-scan.ensures.made.1) (asked (goal.at.returns-in-Err c).After-first_unserved))))

-- the route beyond the fleet, for the given problem
beyond : (fleet : ℕ) (p : Instance) (routes : List (List ℕ)) (o : Option ℕ) → fleet ≡ p.fleet → o ≡ first_route_beyond fleet 0 routes
    → first_route_beyond p.fleet 0 routes ≡ o
beyond fleet p routes o same reported = ap (λ f. first_route_beyond f 0 routes) (sym same) ∙ sym reported

pub returns-in-Some : goal.returns-in-Some
returns-in-Some c = λ printed_cost.
    fleet_step c.args.problem.now c.args.routes.now printed_cost
    (judged (goal.at.returns-in-Some c).In-Ok printed_cost).0 c.in-Some.route c.broken_from.result c.broken_from.ensures
    (beyond c.problem.inside.fleet c.args.problem.now c.args.routes.now _ (ap (λ (p : Instance). p.fleet) c.problem.view_is) c.in-Some.ensures.reported)

pub returns : goal.returns
returns c = λ printed_cost.
    let cost = judged (goal.at.returns c).In-Ok printed_cost in (
      fleet_kept c.args.problem.now c.args.routes.now printed_cost cost.0
          (beyond c.problem.inside.fleet c.args.problem.now c.args.routes.now _ (ap (λ (p : Instance). p.fleet) c.problem.view_is) c.in_default.ensures.reported),
      cost.1,
    )
