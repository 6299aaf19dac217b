-- The answer of the program to an audit of two texts: a line and a status.
use Rattle.std.specs.Prelude.{◌≡◌, ◌≤◌, ◌⊎◌, ◌↔◌, ℕ, Bool, true, false, List, codes}
use Rattle.plan_audit.specs.Laws.{AreAllPlanned, IsSoundPlan}
use Rattle.route_sched.specs.Cost.{total_length, used_count}
use Rattle.plan_types.specs.Instance.{Instance, IsInstance}
use Rattle.instance_read.specs.Faults.{IsFirstFault}
use Rattle.instance_read.specs.Names as instance_names
use Rattle.instance_read.specs.declared.faults.ReadFault.{ReadFault}
use Rattle.sol_text.specs.Faults as sol_faults
use Rattle.sol_text.specs.Names as solution_names
use Rattle.sol_text.specs.declared.faults.SolFault.{SolFault}
use Rattle.plan_types.specs.declared.solutions.Solution.{Solution}
use Rattle.plan_audit.specs.Verdict.{IsRoutesVerdict, IsVerdict, printed}
use Rattle.plan_audit.specs.declared.rules.Verdict.{Verdict}
use Rattle.plan_audit.specs.declared.rules.Verdict.TheVariants.{Broken, Pass}
use Rattle.instance_read.specs.Readings.{InstanceFault, SpellsInstance}
use Rattle.instance_read.specs.declared.formats.Format.{Format}
use Rattle.auditor_cli.specs.AnswerText.{broken_text, fault_text, pass_text}
use Rattle.auditor_cli.specs.declared.answer.AuditAnswer.{AuditAnswer}

-- The answer for a text that is refused: `TEXT NAME LINE`, with status 2.
abbrev pub refused_answer : List ℕ → List ℕ → ℕ → AuditAnswer
refused_answer text name line = record { line = fault_text text name line; status = 2 }

-- The answer for a verdict: status 0 for a pass, 1 for a broken rule.
abbrev pub verdict_answer : Verdict → AuditAnswer
verdict_answer (Pass cost) = record { line = pass_text cost; status = 0 }
verdict_answer (Broken rule route place stop) = record { line = broken_text rule route place stop; status = 1 }

-- The instance has a fault, and the answer names its first one.
pub record RefusesInstance (format : Format) (instance : List ℕ) (answer : AuditAnswer) : Type 0 where
  pub fault : ReadFault
  pub first : IsFirstFault (InstanceFault format instance) fault
  pub reported : answer ≡ refused_answer (codes "instance") (instance_names.kind_name fault.kind) fault.line

-- The instance spells a problem, the solution has a fault, and the answer names its first one.
pub record RefusesSolution (format : Format) (instance solution : List ℕ) (answer : AuditAnswer) : Type 0 where
  pub problem : Instance
  pub spelled : SpellsInstance format instance problem
  pub fault : SolFault
  pub first : sol_faults.IsFirstFault solution fault
  pub reported : answer ≡ refused_answer (codes "solution") (solution_names.kind_name fault.kind) fault.line

-- The verdict is the one on this solution of the problem, with its printed cost.
abbrev pub IsSolutionVerdict : Instance → Solution → Verdict → Type 0
IsSolutionVerdict problem plan verdict = IsVerdict problem (printed plan.routes plan.cost) verdict

-- The answer is that of the verdict on this solution of the problem.
pub record AnswersVerdict (problem : Instance) (plan : Solution) (answer : AuditAnswer) : Type 0 where
  pub verdict : Verdict
  pub is_verdict : IsSolutionVerdict problem plan verdict
  pub reported : answer ≡ verdict_answer verdict

-- The instance spells a problem and the solution spells a plan, and the answer is that of the verdict on these
-- two.
pub record Judges (format : Format) (instance solution : List ℕ) (answer : AuditAnswer) : Type 0 where
  pub problem : Instance
  pub problem_spelled : SpellsInstance format instance problem
  pub problem_kept : IsInstance problem
  pub plan : Solution
  pub plan_spelled : sol_faults.Spells solution plan
  pub verdict : AnswersVerdict problem plan answer

-- The answer to the audit of a solution against an instance in this format.
abbrev pub IsAnswer : Format → List ℕ → List ℕ → AuditAnswer → Type 0
IsAnswer format instance solution answer = RefusesInstance format instance answer ⊎ (RefusesSolution format instance solution answer ⊎ Judges format instance solution answer)

-- If the instance spells a problem and the solution spells a plan, the answer is that of the verdict on these
-- two.
abbrev pub JudgesSpelled : Format → List ℕ → List ℕ → AuditAnswer → Type 0
JudgesSpelled format instance solution answer =
    (problem : Instance) (plan : Solution) → SpellsInstance format instance problem → sol_faults.Spells solution plan → AnswersVerdict problem plan answer

-- Both texts can be parsed, and the solution is sound, serves each request, uses no more vehicles than there
-- are, and prints its true distance.
pub record AreSound (format : Format) (instance solution : List ℕ) : Type 0 where
  pub problem : Instance
  pub problem_spelled : SpellsInstance format instance problem
  pub plan : Solution
  pub plan_spelled : sol_faults.Spells solution plan
  pub sound : IsSoundPlan problem plan.routes
  pub complete : AreAllPlanned problem plan.routes
  pub fleet : used_count plan.routes ≤ problem.fleet
  pub distance : plan.cost ≡ total_length problem plan.routes

-- The status is 0 exactly if both texts can be parsed and the solution is sound in the sense of `AreSound`.
abbrev pub SaysSound : Format → List ℕ → List ℕ → AuditAnswer → Type 0
SaysSound format instance solution answer = (answer.status ≡ 0) ↔ AreSound format instance solution

-- ---- The routes only

-- The instance spells a problem, the solution's routes have a fault, and the answer names their first one.
pub record RefusesRoutes (format : Format) (instance solution : List ℕ) (answer : AuditAnswer) : Type 0 where
  pub problem : Instance
  pub spelled : SpellsInstance format instance problem
  pub fault : SolFault
  pub first : sol_faults.IsFirstRoutesFault solution fault
  pub reported : answer ≡ refused_answer (codes "solution") (solution_names.kind_name fault.kind) fault.line

-- The instance spells a problem and the solution spells routes, and the answer is that of the verdict on these
-- two.
pub record JudgesRoutes (format : Format) (instance solution : List ℕ) (answer : AuditAnswer) : Type 0 where
  pub problem : Instance
  pub problem_spelled : SpellsInstance format instance problem
  pub problem_kept : IsInstance problem
  pub routes : List (List ℕ)
  pub routes_spelled : sol_faults.SpellsRoutes solution routes
  pub verdict : Verdict
  pub is_verdict : IsRoutesVerdict problem routes verdict
  pub reported : answer ≡ verdict_answer verdict

-- The answer to the audit of only the routes of a solution, which needs no cost line.
abbrev pub IsRoutesAnswer : Format → List ℕ → List ℕ → AuditAnswer → Type 0
IsRoutesAnswer format instance solution answer =
    RefusesInstance format instance answer
    ⊎ (RefusesRoutes format instance solution answer ⊎ JudgesRoutes format instance solution answer)

-- Both texts can be parsed, and the routes are sound, serve each request, and use no more vehicles than there
-- are.
pub record HasSoundRoutes (format : Format) (instance solution : List ℕ) : Type 0 where
  pub problem : Instance
  pub problem_spelled : SpellsInstance format instance problem
  pub routes : List (List ℕ)
  pub routes_spelled : sol_faults.SpellsRoutes solution routes
  pub sound : IsSoundPlan problem routes
  pub complete : AreAllPlanned problem routes
  pub fleet : used_count routes ≤ problem.fleet

-- The status is 0 exactly if both texts can be parsed and the routes are sound in the sense of `HasSoundRoutes`.
abbrev pub SaysRoutesSound : Format → List ℕ → List ℕ → AuditAnswer → Type 0
SaysRoutesSound format instance solution answer = (answer.status ≡ 0) ↔ HasSoundRoutes format instance solution

-- The answer to the audit of a solution (false), or only of its routes (true).
abbrev pub IsAnswerBy : Bool → Format → List ℕ → List ℕ → AuditAnswer → Type 0
IsAnswerBy false format instance solution answer = IsAnswer format instance solution answer
IsAnswerBy true format instance solution answer = IsRoutesAnswer format instance solution answer
