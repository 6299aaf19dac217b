-- The result of examining an instance and a solution, and the answer for it.
use Rattle.std.specs.Prelude.{◌≡◌, ℕ, Bool, true, false, List, codes, Result, Ok, Err}
use Rattle.plan_types.specs.Instance.{Instance, IsInstance}
use Rattle.plan_audit.specs.Verdict.{IsRoutesVerdict, IsVerdict, printed}
use Rattle.plan_audit.specs.declared.rules.Verdict.{Verdict}
use Rattle.instance_read.specs.Faults.{IsFirstFault}
use Rattle.instance_read.specs.Names as instance_names
use Rattle.sol_text.specs.Faults as sol_faults
use Rattle.sol_text.specs.Names as solution_names
use Rattle.sol_text.specs.declared.faults.SolFault.{SolFault}
use Rattle.plan_types.specs.declared.solutions.Solution.{Solution}
use Rattle.instance_read.specs.Readings.{InstanceFault, SpellsInstance}
use Rattle.instance_read.specs.declared.formats.Format.{Format}
use Rattle.auditor_cli.specs.Answer.{IsSolutionVerdict, refused_answer, verdict_answer}
use Rattle.auditor_cli.specs.declared.answer.AuditAnswer.{AuditAnswer}
use Rattle.auditor_cli.specs.declared.audit.Examination.{Examination}
use Rattle.auditor_cli.specs.declared.audit.Examination.TheVariants.{BadCost, BadInstance, BadSolution, Judged}

-- The instance spells a problem, and this is the first fault of the solution, which is not one of its cost.
pub record IsBadSolution (format : Format) (instance solution : List ℕ) (fault : SolFault) : Type 0 where
  pub problem : Instance
  pub spelled : SpellsInstance format instance problem
  pub faulty : sol_faults.HasFaultyRoutes solution fault

-- The instance spells this problem, the solution has these routes, and its first fault is this one of its cost.
pub record IsBadCost (format : Format) (instance solution : List ℕ) (problem : Instance) (routes : List (List ℕ)) (fault : SolFault) : Type 0 where
  pub problem_spelled : SpellsInstance format instance problem
  pub problem_kept : IsInstance problem
  pub lacks_cost : sol_faults.LacksOnlyCost solution routes fault

-- Both texts can be parsed: they spell this problem and this plan, and this is the verdict on the two.
pub record IsJudged (format : Format) (instance solution : List ℕ) (problem : Instance) (plan : Solution) (verdict : Verdict) : Type 0 where
  pub problem_spelled : SpellsInstance format instance problem
  pub problem_kept : IsInstance problem
  pub plan_spelled : sol_faults.Spells solution plan
  pub is_verdict : IsSolutionVerdict problem plan verdict

-- A solution of a problem was audited.
abbrev pub IsSolutionJudged : Instance → Solution → Examination → Type 0
IsSolutionJudged problem plan (Judged p s verdict) = (p ≡ problem) × (s ≡ plan) × IsSolutionVerdict problem plan verdict
IsSolutionJudged problem plan _ = ⊥

-- The routes of a problem were audited with their cost, unless the cost has a fault.
abbrev pub IsPrintedJudged : Instance → List (List ℕ) → Result ℕ SolFault → Examination → Type 0
IsPrintedJudged problem routes (Ok cost) examined = IsSolutionJudged problem (record { routes = routes; cost = cost }) examined
IsPrintedJudged problem routes (Err fault) examined = examined ≡ BadCost problem routes fault

-- The result of examining an instance and a solution: the first fault of the instance, else that of the
-- solution, else the verdict.
abbrev pub IsExamined : Format → List ℕ → List ℕ → Examination → Type 0
IsExamined format instance solution (BadInstance fault) = IsFirstFault (InstanceFault format instance) fault
IsExamined format instance solution (BadSolution fault) = IsBadSolution format instance solution fault
IsExamined format instance solution (BadCost problem routes fault) = IsBadCost format instance solution problem routes fault
IsExamined format instance solution (Judged problem plan verdict) = IsJudged format instance solution problem plan verdict

-- The answer for the result of an examination.
abbrev pub answer_of : Examination → AuditAnswer
answer_of (BadInstance fault) = refused_answer (codes "instance") (instance_names.kind_name fault.kind) fault.line
answer_of (BadSolution fault) = refused_answer (codes "solution") (solution_names.kind_name fault.kind) fault.line
answer_of (BadCost problem routes fault) = refused_answer (codes "solution") (solution_names.kind_name fault.kind) fault.line
answer_of (Judged problem plan verdict) = verdict_answer verdict

-- If both texts could be parsed, the examination has the verdict on the problem and the plan.
abbrev pub HasVerdict : Examination → Type 0
HasVerdict (BadInstance fault) = Unit {0}
HasVerdict (BadSolution fault) = Unit {0}
HasVerdict (BadCost problem routes fault) = Unit {0}
HasVerdict (Judged problem plan verdict) = IsSolutionVerdict problem plan verdict

-- ---- The routes only

-- The instance spells a problem, and this is the first fault of the solution's routes.
pub record AreBadRoutes (format : Format) (instance solution : List ℕ) (fault : SolFault) : Type 0 where
  pub problem : Instance
  pub spelled : SpellsInstance format instance problem
  pub first : sol_faults.IsFirstRoutesFault solution fault

-- Both texts can be parsed: they spell this problem and these routes, and this is the verdict on the two.
pub record AreRoutesJudged (format : Format) (instance solution : List ℕ) (problem : Instance) (routes : List (List ℕ)) (verdict : Verdict) : Type 0 where
  pub problem_spelled : SpellsInstance format instance problem
  pub problem_kept : IsInstance problem
  pub routes_spelled : sol_faults.SpellsRoutes solution routes
  pub is_verdict : IsRoutesVerdict problem routes verdict

-- Routes of a problem were audited.
abbrev pub AreTheseRoutesJudged : Instance → List (List ℕ) → Examination → Type 0
AreTheseRoutesJudged problem routes (Judged p s verdict) = (p ≡ problem) × (s.routes ≡ routes) × IsRoutesVerdict problem routes verdict
AreTheseRoutesJudged problem routes _ = ⊥

-- The result of examining an instance and the routes of a solution, whose cost line is not parsed.
abbrev pub AreRoutesExamined : Format → List ℕ → List ℕ → Examination → Type 0
AreRoutesExamined format instance solution (BadInstance fault) = IsFirstFault (InstanceFault format instance) fault
AreRoutesExamined format instance solution (BadSolution fault) = AreBadRoutes format instance solution fault
AreRoutesExamined format instance solution (BadCost problem routes fault) = ⊥
AreRoutesExamined format instance solution (Judged problem plan verdict) = AreRoutesJudged format instance solution problem plan.routes verdict

-- The result of examining an instance and a solution (false), or only the routes of the solution (true).
abbrev pub IsExaminedBy : Bool → Format → List ℕ → List ℕ → Examination → Type 0
IsExaminedBy false format instance solution examined = IsExamined format instance solution examined
IsExaminedBy true format instance solution examined = AreRoutesExamined format instance solution examined

-- If both texts could be parsed, the examination has the verdict on the problem and on these routes with some
-- printed cost.
abbrev pub HasVerdictForSomeCost : Examination → Type 0
HasVerdictForSomeCost (BadInstance fault) = Unit {0}
HasVerdictForSomeCost (BadSolution fault) = Unit {0}
HasVerdictForSomeCost (BadCost problem routes fault) = Unit {0}
HasVerdictForSomeCost (Judged problem plan verdict) = (cost : ℕ) × IsVerdict problem (printed plan.routes cost) verdict
