-- The text is written, and then `ok`.
use Rattle.std.proofs.Common.{◌++◌, sym, subst}
use Rattle.std.proofs.lemmas.Result.{err_from_is_err_and}
use Rattle.command_text.specs.Answers.{answer_text, line}
use Rattle.command_text.specs.declared.answers.Answer.TheVariants as answer
use Rattle.command_server.specs.Streams.{WritesAndFlushes}
use Rattle.command_server.proofs.StreamLemmas.{hands_after, part_front}
use Rattle.command_server.proofs.answering.write_text_and_ok.Goals as goal

pub returns-in_err-put-clause-reported : goal.returns-in_err-put-clause-reported
returns-in_err-put-clause-reported g c =
    let reported = err_from_is_err_and c.from_residual.result c.from_residual.ensures.1 in
    let old = g.W.Sink.stream c.args.writer.now in
    let new = g.W.Sink.stream c.put.new.self in
    let calls = g.D.Sectors.calls c.args.session.now.device in
    subst (λ r. WritesAndFlushes old new r calls (c.args.text.now ++ line (answer_text answer.Ok))) (sym reported.1)
    (part_front old new calls c.args.text.now (line (answer_text answer.Ok)) c.in_err-put.ensures.puts)

pub returns-clause-reported : goal.returns-clause-reported
returns-clause-reported g c =
    hands_after c.write_answer.result (g.W.Sink.stream c.args.writer.now) (g.W.Sink.stream c.put.new.self) (g.W.Sink.stream c.write_answer.new.writer)
    (g.D.Sectors.calls c.args.session.now.device) c.args.text.now (line (answer_text answer.Ok))
    c.in_ok-put.ensures.puts c.write_answer.ensures.reported
