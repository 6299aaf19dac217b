-- The cases: there is a job or not, the question is refused or not, and there is memory for the text or not.
use Rattle.std.proofs.Common.{rules, ◌≡◌, ◌∙◌, ◌++◌, None, Some, refl, subst, sym}
use Rattle.std.proofs.lemmas.Result.{err_from_is_err_and}
use Rattle.command_text.specs.Answering.{question_reply, unless_broken}
use Rattle.command_text.specs.Answers.{answer_text, line}
use Rattle.command_text.specs.Questions.{question_text}
use Rattle.command_text.specs.declared.answers.Answer.TheVariants as answer
use Rattle.command_server.specs.ServeContract.{Reports}
use Rattle.command_server.specs.ServeSteps.{silent}
use Rattle.command_server.proofs.ReplyLemmas.{by_refusal, job_refuses, job_reported, job_unmade, reports_none}
use Rattle.command_server.proofs.answering.question_reply.Goals as goal

pub returns-in_err-job : goal.returns-in_err-job
returns-in_err-job g c =
    let p = err_from_is_err_and c.from_residual.result c.from_residual.ensures.1 in
    rw (p.1, p.2) (reports_none (question_reply c.args.question) c.args.session.now c.in_err-job.field-0.0 (λ t. refl) c.in_err-job.ensures.none)

pub returns-in-Some : goal.returns-in-Some
returns-in-Some g c =
    let job = c.in_ok-job.job.now in
    let q = c.args.question in
    job_refuses (question_reply q) c.args.session.now job c.in_ok-job.ensures.job.0 c.in_ok-job.ensures.job.1 (answer.Refused c.in-Some.refusal)
    (by_refusal job q (Some c.in-Some.refusal) (sym c.question_refusal.ensures ∙ c.in-Some.is))

pub returns-in-Ok : goal.returns-in-Ok
returns-in-Ok g c =
    let session = c.args.session.now in
    let job = c.in_ok-job.job.now in
    let q = c.args.question in
    let bytes : c.in-Ok.text ≡ question_text job q = search rules in
    subst (λ t. Reports g.D.Sectors session (λ s. unless_broken s (question_reply q s s.state)) (t ++ line (answer_text answer.Ok)) session silent) (sym bytes)
    (job_reported (question_reply q) session job c.in_ok-job.ensures.job.0 c.in_ok-job.ensures.job.1 (question_text job q) (by_refusal job q None (sym c.question_refusal.ensures ∙ c.in-None.is)))

pub returns-in-Err : goal.returns-in-Err
returns-in-Err g c =
    let job = c.in_ok-job.job.now in
    let q = c.args.question in
    job_unmade (question_reply q) c.args.session.now job c.in_ok-job.ensures.job.0 c.in_ok-job.ensures.job.1 (question_text job q) (by_refusal job q None (sym c.question_refusal.ensures ∙ c.in-None.is))
