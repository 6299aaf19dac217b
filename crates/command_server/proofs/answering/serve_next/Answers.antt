-- The two cases: there is a job or not.
use Rattle.std.proofs.Common.{rules, ◌≡◌, ◌++◌, refl, subst}
use Rattle.command_text.specs.Answering.{next_reply}
use Rattle.command_text.specs.Answers.{answer_text, line, next_text}
use Rattle.command_text.specs.declared.answers.Answer.TheVariants as answer
use Rattle.command_server.specs.Streams.{WritesAndFlushes}
use Rattle.command_server.proofs.ReplyLemmas.{job_stated, reports_none}
use Rattle.command_server.proofs.ServeLemmas.{answers_reported}
use Rattle.command_server.proofs.answering.serve_next.Goals as goal

pub returns-in-Err-clause-answers : goal.returns-in-Err-clause-answers
returns-in-Err-clause-answers g c = answers_reported c.write_answer.result _ _ (reports_none next_reply c.args.session.now c.in-Err.answer (λ t. refl) c.in-Err.ensures.none) c.write_answer.ensures.reported

pub returns-in-Ok-clause-answers : goal.returns-in-Ok-clause-answers
returns-in-Ok-clause-answers g c =
    let session = c.args.session.now in
    let job = c.in-Ok.job.now in
    let before = g.W.Sink.stream c.args.writer.now in
    let after = g.W.Sink.stream c.write_line_and_ok.new.writer in
    let bytes : c.as_bytes.result.now ≡ next_text job = search rules in
    let reported = subst (λ t. WritesAndFlushes before after c.write_line_and_ok.result (g.D.Sectors.calls session.device) (line t ++ line (answer_text answer.Ok))) bytes c.write_line_and_ok.ensures.reported in
    answers_reported c.write_line_and_ok.result _ _ (job_stated next_reply session job c.in-Ok.ensures.job.0 c.in-Ok.ensures.job.1 (next_text job) (λ t. refl)) reported
