-- Lemmas about the results for a list of instances.
use Rattle.std.proofs.Common.{◌≡◌, ℕ, List, [], ◌∷◌, Option, Some, None, Err, refl, ap, subst}
use Rattle.std.specs.Io.KnownBytes.{Appends}
use Rattle.std.specs.declared.io.ErrorKind.{ErrorKind}
use Rattle.command_text.specs.Answers.{line}
use Rattle.auditor_cli.proofs.ListLemmas.{grown_twice}
use Rattle.auditor_cli.specs.Reads.{FileRead, FileWrite}
use Rattle.auditor_cli.specs.Messages.{PrintsWriteFailure, write_failure_line}
use Rattle.instance_read.specs.declared.formats.Format.{Format}
use Rattle.planner_cli.specs.Solve.{unplanned_line}
use Rattle.planner_cli.specs.Solves.{AreGrown, FileEffects, IsAuditOf, IsPlanLine, IsWriteFailure, PrintsPlaced, with_read}
use Rattle.auditor_cli.specs.declared.answer.AuditAnswer.{AuditAnswer}

abbrev pub the_done : List FileRead → List FileWrite → Option (List ℕ) → FileEffects
the_done reads writes errors = record { reads = reads; writes = writes; errors = errors }

pub done_as : (was now : List FileRead) (made : List FileWrite) (errors : Option (List ℕ)) (read : FileRead) → now ≡ read ∷ was
    → the_done now made errors ≡ with_read read (the_done was made errors)
done_as was now made errors read e = ap (λ (reads : List FileRead). the_done reads made errors) e

pub all_grown : (was next now : FileEffects) → AreGrown was next → AreGrown next now → AreGrown was now
all_grown was next now a b = (grown_twice was.reads next.reads now.reads a.0 b.0, grown_twice was.writes next.writes now.writes a.1 b.1)

-- The line that is printed for a written plan is the one that its text and its unplanned requests require.
pub placed_plan : (k : Format) (x text names : List ℕ) (audited : Option AuditAnswer) (before after : Option (List ℕ)) (status : ℕ)
    → IsAuditOf k x text names audited → PrintsPlaced audited names before after status
    → (reported : List ℕ) × IsPlanLine k x text names reported status × Appends before after reported
placed_plan k x text [] (Some answer) before after status is reported = (line answer.line, (answer, is, refl, reported.0), reported.1)
placed_plan k x text [] None before after status is reported = absurd is
placed_plan k x text (name ∷ names) (Some answer) before after status is reported = absurd is
placed_plan k x text (name ∷ names) None before after status is reported = (unplanned_line (name ∷ names), (refl, reported.0), reported.1)

-- If no new file could be made at the path, the line says so.
pub unwritten : (path : List ℕ) (error kind : ErrorKind) (made left : List FileWrite) (before after : Option (List ℕ)) (status : ℕ) → kind ≡ error
    → left ≡ (path, Err error) ∷ made → PrintsWriteFailure path kind before after status
    → IsWriteFailure path made left (write_failure_line path error) status × Appends before after (write_failure_line path error)
unwritten path error kind made left before after status is noted reported =
    let so = subst (λ k. PrintsWriteFailure path k before after status) is reported in
    (record { error = error; noted = noted; line = refl; status_is = so.0 }, so.1)
