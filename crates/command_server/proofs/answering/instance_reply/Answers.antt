-- The cases: there is a job or not, the format can express the problem or not, and there is memory for the text
-- or not.
use Rattle.std.proofs.Common.{rules, ◌≡◌, ◌++◌, Err, refl, subst, sym}
use Rattle.std.proofs.lemmas.Result.{err_from_is_err_and}
use Rattle.command_text.specs.Answering.{instance_reply, unless_broken}
use Rattle.command_text.specs.Answers.{answer_text, line}
use Rattle.command_text.specs.declared.answers.Answer.TheVariants as answer
use Rattle.instance_text.specs.Formats.{has_format}
use Rattle.instance_text.specs.Texts.{instance_text}
use Rattle.instance_text.specs.declared.faults.WriteFault.TheVariants as instance_fault
use Rattle.command_server.specs.ServeContract.{Reports}
use Rattle.command_server.specs.ServeSteps.{silent}
use Rattle.command_server.proofs.ReplyLemmas.{job_refuses, job_reported, job_unmade, sayable_is, sayable_ok, sayable_unmade, reports_none, unsayable_is, unsayable_reported}
use Rattle.command_server.proofs.answering.instance_reply.Goals as goal

pub returns-in_err-job : goal.returns-in_err-job
returns-in_err-job g c =
    let p = err_from_is_err_and c.from_residual.result c.from_residual.ensures.1 in
    rw (p.1, p.2) (reports_none instance_reply c.args.session.now c.in_err-job.field-0.0 (λ t. refl) c.in_err-job.ensures.none)

pub returns-in-Ok : goal.returns-in-Ok
returns-in-Ok g c =
    let session = c.args.session.now in
    let job = c.in_ok-job.job.now in
    let bytes : c.in-Ok.text ≡ instance_text job.problem = search rules in
    let sayable = sayable_ok (has_format job.problem) c.print_instance.result c.print_instance.ensures.no_format c.print_instance.ensures.format c.in-Ok.text c.in-Ok.is in
    subst (λ t. Reports g.D.Sectors session (λ s. unless_broken s (instance_reply s s.state)) (t ++ line (answer_text answer.Ok)) session silent) (sym bytes)
    (job_reported instance_reply session job c.in_ok-job.ensures.job.0 c.in_ok-job.ensures.job.1 (instance_text job.problem) (sayable_is job sayable))

pub returns-in-Err-NoFormat : goal.returns-in-Err-NoFormat
returns-in-Err-NoFormat g c =
    let job = c.in_ok-job.job.now in
    let is : c.print_instance.result ≡ Err instance_fault.NoFormat = search rules in
    let unsayable = unsayable_reported (has_format job.problem) c.print_instance.result c.print_instance.ensures.no_format c.print_instance.ensures.format is in
    job_refuses instance_reply c.args.session.now job c.in_ok-job.ensures.job.0 c.in_ok-job.ensures.job.1 answer.NoFormat (unsayable_is job unsayable)

pub returns-in-Err-OutOfMemory : goal.returns-in-Err-OutOfMemory
returns-in-Err-OutOfMemory g c =
    let job = c.in_ok-job.job.now in
    let is : c.print_instance.result ≡ Err instance_fault.OutOfMemory = search rules in
    let sayable = sayable_unmade (has_format job.problem) c.print_instance.result c.print_instance.ensures.no_format c.print_instance.ensures.format is in
    job_unmade instance_reply c.args.session.now job c.in_ok-job.ensures.job.0 c.in_ok-job.ensures.job.1 (instance_text job.problem) (sayable_is job sayable)
