-- The cases: there is a job or not, all requests are planned or not, and there is memory for the text or not.
use Rattle.std.proofs.Common.{rules, ◌≡◌, ◌++◌, Err, refl, subst, sym}
use Rattle.std.proofs.lemmas.Result.{err_from_is_err_and}
use Rattle.command_text.specs.Answering.{print_reply, unless_broken}
use Rattle.command_text.specs.Answers.{answer_text, line}
use Rattle.command_text.specs.Showing.{print_text}
use Rattle.command_text.specs.declared.answers.Answer.TheVariants as answer
use Rattle.route_sched.specs.Cost.{unplanned_count}
use Rattle.sol_text.specs.declared.faults.WriteSolFault.TheVariants as write
use Rattle.command_server.specs.ServeContract.{Reports}
use Rattle.command_server.specs.ServeSteps.{silent}
use Rattle.command_server.proofs.ReplyLemmas.{job_refuses, job_reported, job_unmade, planned_is, planned_ok, planned_unmade, reports_none, unplanned_is, unplanned_reported}
use Rattle.command_server.proofs.answering.print_reply.Goals as goal

pub returns-in_err-job : goal.returns-in_err-job
returns-in_err-job g c =
    let p = err_from_is_err_and c.from_residual.result c.from_residual.ensures.1 in
    rw (p.1, p.2) (reports_none print_reply c.args.session.now c.in_err-job.field-0.0 (λ t. refl) c.in_err-job.ensures.none)

pub returns-in-Ok : goal.returns-in-Ok
returns-in-Ok g c =
    let session = c.args.session.now in
    let job = c.in_ok-job.job.now in
    let bytes : c.in-Ok.text ≡ print_text job = search rules in
    let planned = planned_ok (unplanned_count job.problem job.plan) c.print.result c.print.ensures.unplanned c.print.ensures.planned c.in-Ok.text c.in-Ok.is in
    subst (λ t. Reports g.D.Sectors session (λ s. unless_broken s (print_reply s s.state)) (t ++ line (answer_text answer.Ok)) session silent) (sym bytes)
    (job_reported print_reply session job c.in_ok-job.ensures.job.0 c.in_ok-job.ensures.job.1 (print_text job) (planned_is job planned))

pub returns-in-Err-Unplanned : goal.returns-in-Err-Unplanned
returns-in-Err-Unplanned g c =
    let job = c.in_ok-job.job.now in
    let is : c.print.result ≡ Err (write.Unplanned c.in-Err-Unplanned.field-0-0) = search rules in
    let unplanned = unplanned_reported (unplanned_count job.problem job.plan) c.print.result c.print.ensures.unplanned c.print.ensures.planned c.in-Err-Unplanned.field-0-0 is in
    job_refuses print_reply c.args.session.now job c.in_ok-job.ensures.job.0 c.in_ok-job.ensures.job.1 answer.Unplanned (unplanned_is job unplanned)

pub returns-in-Err-OutOfMemory : goal.returns-in-Err-OutOfMemory
returns-in-Err-OutOfMemory g c =
    let job = c.in_ok-job.job.now in
    let is : c.print.result ≡ Err write.OutOfMemory = search rules in
    let planned = planned_unmade (unplanned_count job.problem job.plan) c.print.result c.print.ensures.unplanned c.print.ensures.planned is in
    job_unmade print_reply c.args.session.now job c.in_ok-job.ensures.job.0 c.in_ok-job.ensures.job.1 (print_text job) (planned_is job planned)
