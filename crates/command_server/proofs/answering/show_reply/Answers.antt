-- The cases: there is a job or not, and there is memory for the text or not.
use Rattle.std.proofs.Common.{rules, ◌≡◌, ◌++◌, refl, subst, sym}
use Rattle.std.proofs.lemmas.Result.{err_from_is_err_and}
use Rattle.command_text.specs.Answering.{show_reply, unless_broken}
use Rattle.command_text.specs.Answers.{answer_text, line}
use Rattle.command_text.specs.Showing.{show_text}
use Rattle.command_text.specs.declared.answers.Answer.TheVariants as answer
use Rattle.command_server.specs.ServeContract.{Reports}
use Rattle.command_server.specs.ServeSteps.{silent}
use Rattle.command_server.proofs.ReplyLemmas.{job_reported, job_unmade, reports_none}
use Rattle.command_server.proofs.answering.show_reply.Goals as goal

pub returns-in_err-job : goal.returns-in_err-job
returns-in_err-job g c =
    let p = err_from_is_err_and c.from_residual.result c.from_residual.ensures.1 in
    rw (p.1, p.2) (reports_none show_reply c.args.session.now c.in_err-job.field-0.0 (λ t. refl) c.in_err-job.ensures.none)

pub returns-in-Ok : goal.returns-in-Ok
returns-in-Ok g c =
    let session = c.args.session.now in
    let job = c.in_ok-job.job.now in
    let bytes : c.in-Ok.text ≡ show_text job = search rules in
    subst (λ t. Reports g.D.Sectors session (λ s. unless_broken s (show_reply s s.state)) (t ++ line (answer_text answer.Ok)) session silent) (sym bytes)
    (job_reported show_reply session job c.in_ok-job.ensures.job.0 c.in_ok-job.ensures.job.1 (show_text job) (λ t. refl))

pub returns-in-Err : goal.returns-in-Err
returns-in-Err g c =
    let job = c.in_ok-job.job.now in
    job_unmade show_reply c.args.session.now job c.in_ok-job.ensures.job.0 c.in_ok-job.ensures.job.1 (show_text job) (λ t. refl)
