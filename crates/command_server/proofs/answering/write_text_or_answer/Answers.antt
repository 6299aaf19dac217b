-- Either the text and `ok` are written, or the answer.
use Rattle.std.proofs.Common.{rules, ◌≡◌, ◌++◌, subst, sym}
use Rattle.command_text.specs.Answers.{answer_text, line}
use Rattle.command_text.specs.declared.answers.Answer.TheVariants as answer
use Rattle.command_server.specs.Streams.{WritesAndFlushes}
use Rattle.command_server.specs.ServeSteps.{text_or_answer}
use Rattle.command_server.proofs.answering.write_text_or_answer.Goals as goal

pub returns-in-Ok-clause-reported : goal.returns-in-Ok-clause-reported
returns-in-Ok-clause-reported g c =
    let before = g.W.Sink.stream c.args.writer.now in
    let after = g.W.Sink.stream c.write_text_and_ok.new.writer in
    let calls = g.D.Sectors.calls c.args.session.now.device in
    let bytes : c.as_bytes.result.now ≡ c.in-Ok.text = search rules in
    subst (λ m. WritesAndFlushes before after c.write_text_and_ok.result calls (text_or_answer m)) (sym c.in-Ok.is)
    (subst (λ t. WritesAndFlushes before after c.write_text_and_ok.result calls (t ++ line (answer_text answer.Ok))) bytes c.write_text_and_ok.ensures.reported)

pub returns-in-Err-clause-reported : goal.returns-in-Err-clause-reported
returns-in-Err-clause-reported g c =
    let calls = g.D.Sectors.calls c.args.session.now.device in
    subst (λ m. WritesAndFlushes (g.W.Sink.stream c.args.writer.now) (g.W.Sink.stream c.write_answer.new.writer) c.write_answer.result calls (text_or_answer m)) (sym c.in-Err.is) c.write_answer.ensures.reported
