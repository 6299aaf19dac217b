-- The cases of the result of reading the announced bytes.
use Rattle.std.proofs.Common.{refl, subst, sym}
use Rattle.command_text.specs.Answering.{answer_reply}
use Rattle.command_text.specs.Answers.{answer_text, line}
use Rattle.command_text.specs.declared.answers.Answer.TheVariants as answer
use Rattle.command_server.specs.ServeContract.{Reports}
use Rattle.command_server.specs.ServeSteps.{bytes_reply, silent, announced_reply}
use Rattle.command_server.proofs.ServeLemmas.{reports_same}
use Rattle.command_server.proofs.answering.text_answer.Goals as goal

pub returns-in-Short : goal.returns-in-Short
returns-in-Short g c = λ reading bytes is.
    let old = c.args.session.now in
    subst (λ t. Reports g.D.Sectors old (announced_reply t reading c.args.purpose bytes) (line (answer_text answer.Truncated)) old silent) (sym c.in-Short.is)
    (reports_same old (λ s. answer_reply s answer.Truncated) answer.Truncated (λ fates. refl))

pub returns-in-Dropped : goal.returns-in-Dropped
returns-in-Dropped g c = λ reading bytes is.
    let old = c.args.session.now in
    subst (λ t. Reports g.D.Sectors old (announced_reply t reading c.args.purpose bytes) (line (answer_text c.dropped.result)) old silent) (sym c.in-Dropped.is)
    (c.dropped.ensures reading bytes)

pub returns-in-Whole : goal.returns-in-Whole
returns-in-Whole g c = λ reading bytes is.
    let old = c.args.session.now in
    let new = c.bytes_answer.new.session in
    let reported = line (answer_text c.bytes_answer.result) in
    let reports = subst (λ b. Reports g.D.Sectors old (bytes_reply reading c.args.purpose b) reported new silent) c.deref.ensures.value (c.bytes_answer.ensures reading is) in
    subst (λ t. Reports g.D.Sectors old (announced_reply t reading c.args.purpose bytes) reported new silent) (sym c.in-Whole.is) reports
