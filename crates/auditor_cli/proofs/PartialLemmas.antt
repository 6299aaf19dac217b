-- If a verdict reports none of the rules on stops, they are kept. The stops of a partial plan are known and
-- distinct.
use Rattle.std.proofs.Common.{◌≡◌, ℕ, ◌<◌, true, List, [], All, inl, inr, arith, subst, sym}
use Rattle.std.proofs.lemmas.Bool.{ltb-true}
use Rattle.plan_types.specs.Instance.{Instance}
use Rattle.route_sched.specs.Route.{AreDistinctStops, IsPlan}
use Rattle.plan_audit.proofs.LocalLemmas.{plans_are_disjoint_routes}
use Rattle.plan_audit.proofs.StepLemmas.{plan_from}
use Rattle.plan_audit.specs.Verdict.{IsVerdict, KeepsRules, planned}
use Rattle.plan_audit.specs.declared.rules.Verdict.{Verdict}
use Rattle.plan_audit.specs.declared.rules.Verdict.TheVariants.{Broken, Pass}
use Rattle.instance_read.specs.declared.formats.Format.{Format}
use Rattle.auditor_cli.specs.Partial.{ArePartial, keeps_stops}
use Rattle.auditor_cli.specs.declared.partial.PartialPlan.{PartialPlan}

pub stops_kept : (p : Instance) (routes : List (List ℕ)) (v : Verdict) → IsVerdict p (planned routes []) v → keeps_stops v ≡ true → KeepsRules 1 8 p (planned routes [])
stops_kept p routes (Pass cost) is kept m r i n from to b = is.0 m r i n from (omega (arith, to)) b
stops_kept p routes (Broken rule q j t) is kept m r i n from to b =
    let number = is.1 in
    let above : 8 < rule = ltb-true 8 rule kept in
    elim (is.2.least m r i n from (omega (arith, to)) b) [ inl less ↦ omega (arith, number, above, to, less) | inr same ↦ (let e = same.0 in omega (arith, number, above, to, e)) ]

-- The routes of a partial plan have stops of current requests, each once.
pub partial_distinct : (format : Format) (instance solution : List ℕ) (partial : PartialPlan) → ArePartial format instance solution partial → All (AreDistinctStops partial.problem) partial.plan.routes
partial_distinct format instance solution partial are =
    let problem = partial.problem in
    let routes = partial.plan.routes in
    let plan : IsPlan problem routes = plan_from problem (planned routes []) are.is_partial.is_partial.stops in
    ((plans_are_disjoint_routes problem routes).0 plan).0
