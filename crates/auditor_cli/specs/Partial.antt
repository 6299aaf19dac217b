-- Partial plans: plans that leave requests out, as `solve` prints them, with route lines but no cost line.
use Rattle.std.specs.Prelude.{◌≡◌, ◌<◌, ◌≤◌, ◌⊎◌, ℕ, nat_lt, Bool, true, List, []}
use Rattle.plan_types.specs.Instance.{Instance}
use Rattle.plan_types.specs.declared.plans.Cost.{Cost}
use Rattle.route_sched.specs.Cost.{cost_of, used_count}
use Rattle.sol_text.specs.declared.faults.SolFault.{SolFault}
use Rattle.sol_text.specs.declared.faults.SolFaultKind.TheVariants.{NoCost}
use Rattle.plan_audit.specs.Verdict.{KeepsRules, planned, rule_number}
use Rattle.plan_audit.specs.declared.rules.Rule.TheVariants.{LateReturn}
use Rattle.plan_audit.specs.declared.rules.Verdict.{Verdict}
use Rattle.plan_audit.specs.declared.rules.Verdict.TheVariants.{Broken, Pass}
use Rattle.instance_read.specs.declared.formats.Format.{Format}
use Rattle.auditor_cli.specs.Answer.{IsAnswer}
use Rattle.auditor_cli.specs.AnswerText.{partial_text}
use Rattle.auditor_cli.specs.Examination.{IsBadCost, IsExamined}
use Rattle.auditor_cli.specs.declared.answer.AuditAnswer.{AuditAnswer}
use Rattle.auditor_cli.specs.declared.audit.Examination.{Examination}
use Rattle.auditor_cli.specs.declared.audit.Examination.TheVariants.{BadCost}
use Rattle.auditor_cli.specs.declared.partial.PartialPlan.{PartialPlan}
use Rattle.auditor_cli.specs.declared.partial.PlanExamination.{PlanExamination}
use Rattle.auditor_cli.specs.declared.partial.PlanExamination.TheVariants.{Partial, Whole}

-- The verdict reports none of the rules 1 to 8, which concern stops and returns.
abbrev pub keeps_stops : Verdict → Bool
keeps_stops (Pass cost) = true
keeps_stops (Broken rule route place stop) = nat_lt (rule_number LateReturn) rule

-- The routes keep rules 1 to 8, so each request is served completely or not at all. They use no more vehicles
-- than there are, and leave out at least one request.
pub record IsPartialPlan (p : Instance) (routes : List (List ℕ)) : Type 0 where
  pub stops : KeepsRules 1 8 p (planned routes [])
  pub fleet : used_count routes ≤ p.fleet
  pub leaves_out : 0 < (cost_of p routes).unplanned

-- The routes are a partial plan with this cost.
pub record IsCostOfPartial (p : Instance) (routes : List (List ℕ)) (cost : Cost) : Type 0 where
  pub is_partial : IsPartialPlan p routes
  pub costs : cost ≡ cost_of p routes

-- The instance spells a problem, the solution only lacks its cost line, and its routes form this partial plan of
-- the problem.
pub record ArePartial (format : Format) (instance solution : List ℕ) (partial : PartialPlan) : Type 0 where
  pub fault : SolFault
  pub examined : IsBadCost format instance solution partial.problem partial.plan.routes fault
  pub lacks_line : fault.kind ≡ NoCost
  pub is_partial : IsCostOfPartial partial.problem partial.plan.routes partial.cost

-- If the only fault of the solution is that it lacks its cost line, its routes form no partial plan.
abbrev pub HasNoPartialPlan : Examination → Type 0
HasNoPartialPlan (BadCost problem routes fault) = fault.kind ≡ NoCost → IsPartialPlan problem routes → ⊥
HasNoPartialPlan _ = Unit {0}

-- Routes whose cost has this fault form this partial plan, or are refused for their cost and form none.
abbrev pub IsPartialOrRefused : Instance → List (List ℕ) → SolFault → PlanExamination → Type 0
IsPartialOrRefused problem routes fault (Partial partial) =
    (partial.problem ≡ problem) × (partial.plan.routes ≡ routes) × (fault.kind ≡ NoCost) × IsCostOfPartial problem routes partial.cost
IsPartialOrRefused problem routes fault (Whole examined) = (examined ≡ BadCost problem routes fault) × HasNoPartialPlan (BadCost problem routes fault)

-- The result of examining an instance and a solution that may be a partial plan.
abbrev pub IsPlanExamined : Format → List ℕ → List ℕ → PlanExamination → Type 0
IsPlanExamined format instance solution (Partial partial) = ArePartial format instance solution partial
IsPlanExamined format instance solution (Whole examined) = IsExamined format instance solution examined × HasNoPartialPlan examined

-- The answer for a partial plan with this cost. It has status 1, like that for a broken rule.
abbrev pub partial_answer : Cost → AuditAnswer
partial_answer cost = record { line = partial_text cost; status = 1 }

-- The solution is a partial plan, and this is the answer for it.
abbrev pub IsPartialAnswer : Format → List ℕ → List ℕ → AuditAnswer → Type 0
IsPartialAnswer format instance solution answer = (partial : PartialPlan) × ArePartial format instance solution partial × (answer ≡ partial_answer partial.cost)

-- The answer of the audit, or the answer for a partial plan.
abbrev pub IsPlanAnswer : Format → List ℕ → List ℕ → AuditAnswer → Type 0
IsPlanAnswer format instance solution answer = IsAnswer format instance solution answer ⊎ IsPartialAnswer format instance solution answer
