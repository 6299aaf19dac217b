-- The text is written, and then its line feed and `ok`.
use Rattle.std.proofs.Common.{◌++◌, ◌∷◌, [], append_assoc, sym, subst}
use Rattle.std.proofs.lemmas.Result.{err_from_is_err_and}
use Rattle.command_text.specs.Answers.{answer_text, line}
use Rattle.command_text.specs.declared.answers.Answer.TheVariants as answer
use Rattle.command_server.specs.Streams.{WritesAndFlushes}
use Rattle.command_server.proofs.StreamLemmas.{hands_after, part_front}
use Rattle.command_server.proofs.answering.write_line_and_ok.Goals as goal

pub returns-in_err-put-clause-reported : goal.returns-in_err-put-clause-reported
returns-in_err-put-clause-reported g c =
    let reported = err_from_is_err_and c.from_residual.result c.from_residual.ensures.1 in
    let old = g.W.Sink.stream c.args.writer.now in
    let new = g.W.Sink.stream c.put.new.self in
    let calls = g.D.Sectors.calls c.args.session.now.device in
    let ok = line (answer_text answer.Ok) in
    subst (λ t. WritesAndFlushes old new c.from_residual.result calls t) (sym (append_assoc c.args.text.now (10 ∷ []) ok))
    (subst (λ r. WritesAndFlushes old new r calls (c.args.text.now ++ (10 ∷ [] ++ ok))) (sym reported.1) (part_front old new calls c.args.text.now (10 ∷ [] ++ ok) c.in_err-put.ensures.puts))

pub returns-clause-reported : goal.returns-clause-reported
returns-clause-reported g c =
    let old = g.W.Sink.stream c.args.writer.now in
    let mid = g.W.Sink.stream c.put.new.self in
    let new = g.W.Sink.stream c.write_text_and_ok.new.writer in
    let calls = g.D.Sectors.calls c.args.session.now.device in
    let ok = line (answer_text answer.Ok) in
    subst (λ t. WritesAndFlushes old new c.write_text_and_ok.result calls t) (sym (append_assoc c.args.text.now (10 ∷ []) ok))
    (hands_after c.write_text_and_ok.result old mid new calls c.args.text.now (10 ∷ [] ++ ok) c.in_ok-put.ensures.puts c.write_text_and_ok.ensures.reported)
