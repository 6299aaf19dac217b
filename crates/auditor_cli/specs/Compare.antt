-- The audit of a solution, compared with a best-known cost of its instance.
use Rattle.std.specs.Prelude.{◌≡◌, ℕ, Bool, List, ◌++◌, Option, Some, None}
use Rattle.instance_read.specs.declared.formats.Format.{Format}
use Rattle.auditor_cli.specs.BestKnown.{BestCost, comparison_text}
use Rattle.plan_audit.specs.declared.rules.Verdict.{Verdict}
use Rattle.plan_audit.specs.declared.rules.Verdict.TheVariants.{Broken, Pass}
use Rattle.auditor_cli.specs.Answer.{IsAnswerBy, verdict_answer}
use Rattle.auditor_cli.specs.AnswerText.{pass_text}
use Rattle.auditor_cli.specs.Examination.{IsExaminedBy, answer_of}
use Rattle.auditor_cli.specs.declared.answer.AuditAnswer.{AuditAnswer}
use Rattle.auditor_cli.specs.declared.audit.Examination.{Examination}
use Rattle.auditor_cli.specs.declared.audit.Examination.TheVariants.{BadCost, BadInstance, BadSolution, Judged}

-- The answer for a verdict. After a pass, it compares the cost with the best-known one.
abbrev pub compared_verdict : BestCost → Verdict → AuditAnswer
compared_verdict best (Pass cost) = record { line = pass_text cost ++ comparison_text best cost; status = 0 }
compared_verdict best (Broken rule route place stop) = verdict_answer (Broken rule route place stop)

-- The answer for the examined texts. After a pass, it compares the cost with the best-known one.
abbrev pub compared_answer : BestCost → Examination → AuditAnswer
compared_answer best (BadInstance fault) = answer_of (BadInstance fault)
compared_answer best (BadSolution fault) = answer_of (BadSolution fault)
compared_answer best (BadCost problem routes fault) = answer_of (BadCost problem routes fault)
compared_answer best (Judged problem plan verdict) = compared_verdict best verdict

-- The answer for an instance in this format and a solution or only its routes. After a pass, it compares the
-- cost with the best-known one.
pub record IsComparedAnswer (routes_alone : Bool) (format : Format) (best : BestCost) (instance solution : List ℕ) (answer : AuditAnswer) : Type 0 where
  pub examined : Examination
  pub is_examined : IsExaminedBy routes_alone format instance solution examined
  pub answers : answer ≡ compared_answer best examined

-- The answer for the two texts that a line of a list names, compared with a best-known cost if the line has one.
abbrev pub IsListedAnswer : Bool → Format → Option BestCost → List ℕ → List ℕ → AuditAnswer → Type 0
IsListedAnswer routes_alone format None instance solution answer = IsAnswerBy routes_alone format instance solution answer
IsListedAnswer routes_alone format (Some best) instance solution answer = IsComparedAnswer routes_alone format best instance solution answer
