-- The subcommand `explain`: what it prints.
use Rattle.std.specs.Prelude.{◌≡◌, ◌⊎◌, ℕ, Bool, true, List, [], ◌++◌, codes, string_bytes, Option, Result, Ok, Err, IfOk}
use Rattle.std.specs.Io.KnownBytes.{Appends}
use Rattle.std.specs.declared.alloc.AllocError.{AllocError}
use Rattle.std.specs.declared.io.ErrorKind.{ErrorKind}
use Rattle.plan_types.specs.Instance.{Instance}
use Rattle.plan_audit.specs.Verdict.{IsRoutesVerdict}
use Rattle.plan_audit.specs.declared.rules.Verdict.{Verdict}
use Rattle.plan_explain.specs.VerdictTexts.{distance_text, verdict_text}
use Rattle.plan_explain.specs.Refusals.{instance_fault_text, solution_fault_text}
use Rattle.instance_read.specs.declared.formats.Format.{Format}
use Rattle.auditor_cli.specs.Answer.{IsAnswerBy}
use Rattle.auditor_cli.specs.Examination.{IsExaminedBy, answer_of}
use Rattle.auditor_cli.specs.Files.{AreBothRead, IsUnread}
use Rattle.auditor_cli.specs.Reads.{FileRead}
use Rattle.sol_text.specs.declared.faults.SolFault.{SolFault}
use Rattle.text_lines.specs.Lines.{with_line_feed}
use Rattle.auditor_cli.specs.Messages.{PrintsReadFailure}
use Rattle.auditor_cli.specs.declared.audit.Examination.{Examination}
use Rattle.auditor_cli.specs.declared.audit.Examination.TheVariants.{BadCost, BadInstance, BadSolution, Judged}
use Rattle.auditor_cli.specs.declared.explain.Explanation.{Explanation}

-- The text explains this fault of a solution's cost, and then has the distance of its routes if that is known.
pub record RestsOnCost (solution : List ℕ) (problem : Instance) (routes : List (List ℕ)) (fault : SolFault) (text : List ℕ) : Type 0 where
  pub verdict : Verdict
  pub is_verdict : IsRoutesVerdict problem routes verdict
  pub reported : text ≡ solution_fault_text solution fault ++ distance_text problem routes verdict

-- The text explains the answer for the examined texts: by a fault and its line, or by the values that the
-- verdict is based on.
abbrev pub RestsOn : Format → List ℕ → List ℕ → Examination → List ℕ → Type 0
RestsOn format instance solution (BadInstance fault) text = text ≡ instance_fault_text format instance fault
RestsOn format instance solution (BadSolution fault) text = text ≡ solution_fault_text solution fault
RestsOn format instance solution (BadCost problem routes fault) text = RestsOnCost solution problem routes fault text
RestsOn format instance solution (Judged problem plan verdict) text = text ≡ verdict_text problem plan verdict

-- The answer to the audit of a solution, or only of its routes, with its explanation.
pub record IsExplanation (routes_alone : Bool) (format : Format) (instance solution : List ℕ) (explanation : Explanation) : Type 0 where
  pub examined : Examination
  pub is_examined : IsExaminedBy routes_alone format instance solution examined
  pub answers : explanation.answer ≡ answer_of examined
  pub rests : RestsOn format instance solution examined (string_bytes explanation.text)

-- The line of the answer, and then its explanation.
abbrev pub answer_and_text : Explanation → List ℕ
answer_and_text explanation = with_line_feed explanation.answer.line ++ string_bytes explanation.text

-- The output for an explanation: the answer with it, or `out of memory`.
abbrev pub explanation_text : {E : Type 0} → Result Explanation E → List ℕ
explanation_text (Ok explanation) = answer_and_text explanation
explanation_text (Err e) = with_line_feed (codes "out of memory")

-- The exit status for an explanation: that of the answer, or 4 if memory ran out.
abbrev pub explanation_status : {E : Type 0} → Result Explanation E → ℕ
explanation_status (Ok explanation) = explanation.answer.status
explanation_status (Err e) = 4

-- The answer with its explanation, or `out of memory`, was appended to the output.
abbrev pub PrintsExplanationResult : {E : Type 0} → Result Explanation E → Option (List ℕ) → Option (List ℕ) → ℕ → Type 0
PrintsExplanationResult explained before after status = (status ≡ explanation_status explained) × Appends before after (explanation_text explained)

-- The answer for the instance x and the solution y was printed with its explanation, or `out of memory`.
pub record ExplainsTexts (routes_alone : Bool) (k : Format) (x y : List ℕ) (before after : Option (List ℕ)) (status : ℕ) : Type 0 where
  pub explained : Result Explanation AllocError
  pub answers : IfOk explained (λ explanation. IsAnswerBy routes_alone k x y explanation.answer)
  pub explains : IfOk explained (IsExplanation routes_alone k x y)
  pub reported : PrintsExplanationResult explained before after status

-- Both files were read, and the answer for their texts was printed with its explanation.
pub record ExplainsBothRead (routes_alone : Bool) (k : Format) (instance solution : List ℕ) (was now : List FileRead) (before after : Option (List ℕ)) (status : ℕ) : Type 0 where
  pub x : List ℕ
  pub y : List ℕ
  pub read : AreBothRead instance solution x y was now
  pub texts : ExplainsTexts routes_alone k x y before after status

-- One of the files can't be read, and a line that says so was printed.
pub record PrintsUnreadFile (instance solution : List ℕ) (was now : List FileRead) (before after : Option (List ℕ)) (status : ℕ) : Type 0 where
  pub path : List ℕ
  pub error : ErrorKind
  pub unread : IsUnread instance solution path error was now
  pub reported : PrintsReadFailure path error before after status

-- The answer for two files was printed with its explanation, or the line for a file that can't be read.
abbrev pub ExplainsFiles : Bool → Format → List ℕ → List ℕ → List FileRead → List FileRead → Option (List ℕ) → Option (List ℕ) → ℕ → Type 0
ExplainsFiles routes_alone k instance solution was now before after status =
    ExplainsBothRead routes_alone k instance solution was now before after status ⊎ PrintsUnreadFile instance solution was now before after status
