-- The printed form of a plan: its nonempty routes and their distance.
use Rattle.std.specs.Prelude.{◌≡◌, ℕ, true, List}
use Rattle.plan_types.specs.Instance.{Instance, IsInstance}
use Rattle.route_sched.specs.Cost.{cost_of, total_length, unplanned_count, used_routes}
use Rattle.plan_audit.specs.Laws.{IsSoundPlan}
use Rattle.plan_audit.specs.Passes.{passes}
use Rattle.plan_audit.specs.Verdict.{IsVerdict, printed}
use Rattle.plan_audit.specs.declared.rules.Verdict.TheVariants.{Pass}

-- law: a sound plan is sound without its empty routes
abbrev pub UsedRoutesAreSound : Type 0
UsedRoutesAreSound = (p : Instance) (routes : List (List ℕ)) → IsInstance p → IsSoundPlan p routes → IsSoundPlan p (used_routes routes)

-- law: a plan that passes and leaves no request out also passes as a printed solution, with the same cost
abbrev pub WholePlansPassPrinted : Type 0
WholePlansPassPrinted = (p : Instance) (pins routes : List (List ℕ)) → passes p pins routes ≡ true → unplanned_count p routes ≡ 0
    → IsVerdict p (printed (used_routes routes) (total_length p routes)) (Pass (cost_of p routes))
