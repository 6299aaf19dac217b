-- The audit of a solution that `solve` returns.
use Rattle.std.specs.Prelude.{◌≡◌, ◌<◌, ◌≤◌, ◌^◌, ℕ, List, [], Option}
use Rattle.plan_types.specs.Instance.{Instance}
use Rattle.route_sched.specs.Cost.{cost_of, total_length, used_count}
use Rattle.sol_text.specs.Faults.{Spells}
use Rattle.plan_types.specs.declared.solutions.Solution.{Solution}
use Rattle.plan_audit.specs.Laws.{AreAllPlanned, IsSoundPlan}
use Rattle.plan_audit.specs.Verdict.{IsVerdict, printed}
use Rattle.plan_audit.specs.declared.rules.Verdict.TheVariants.{Pass}
use Rattle.instance_read.specs.Readings.{SpellsInstance}
use Rattle.instance_read.specs.declared.formats.Format.{Format}
use Rattle.plan_solve.specs.Solved.{IsSolved}
use Rattle.plan_solve.specs.declared.solver.SolvedPlan.{SolvedPlan}

-- The instance and the solution are well-formed texts, and the verdict is `Pass`. So the solution is sound,
-- serves each request, uses no more vehicles than there are, and prints its distance.
pub record PassesAudit (format : Format) (instance solution : List ℕ) : Type 0 where
  pub problem : Instance
  pub problem_spelled : SpellsInstance format instance problem
  pub plan : Solution
  pub plan_spelled : Spells solution plan
  pub passes : IsVerdict problem (printed plan.routes plan.cost) (Pass (cost_of problem plan.routes))
  pub sound : IsSoundPlan problem plan.routes
  pub complete : AreAllPlanned problem plan.routes
  pub fleet : used_count plan.routes ≤ problem.fleet
  pub distance : plan.cost ≡ total_length problem plan.routes

-- Law: a result of `solve` that leaves no request out passes the audit, with a deviation or without one.
abbrev pub SolutionsPassAudit : Type 0
SolutionsPassAudit = (format : Format) (text : List ℕ) (seed steps : ℕ) (deviation : Option ℕ) (before after_it : Option (List ℕ)) (found : SolvedPlan) → seed < 2 ^ 64
    → IsSolved format text seed steps deviation before after_it found → found.unplanned.items ≡ [] → PassesAudit format text found.text.items
