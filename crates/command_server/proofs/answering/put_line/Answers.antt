-- The text is written, and then its line feed.
use Rattle.std.proofs.Common.{◌++◌, ◌∷◌, [], Err, sym, subst}
use Rattle.std.specs.Prelude.{⊤}
use Rattle.std.proofs.lemmas.Result.{err_from_is_err_and}
use Rattle.command_server.specs.Streams.{WritesAndFlushes}
use Rattle.command_server.proofs.StreamLemmas.{hands_after, part_front}
use Rattle.command_server.proofs.answering.put_line.Goals as goal

pub returns-in_err-put-clause-reported : goal.returns-in_err-put-clause-reported
returns-in_err-put-clause-reported g c =
    let reported = err_from_is_err_and c.from_residual.result c.from_residual.ensures.1 in
    let old = g.W.Sink.stream c.args.writer.now in
    let new = g.W.Sink.stream c.put.new.self in
    let calls = g.D.Sectors.calls c.args.session.now.device in
    subst (λ r. WritesAndFlushes old new r calls (c.args.text.now ++ 10 ∷ [])) (sym reported.1) (part_front old new calls c.args.text.now (10 ∷ []) c.in_err-put.ensures.puts)

pub returns-in_err-put-2-clause-reported : goal.returns-in_err-put-2-clause-reported
returns-in_err-put-2-clause-reported g c =
    let reported = err_from_is_err_and c.from_residual-in_err-put-2.result c.from_residual-in_err-put-2.ensures.1 in
    let old = g.W.Sink.stream c.args.writer.now in
    let mid = g.W.Sink.stream c.put.new.self in
    let new = g.W.Sink.stream c.put-2.new.self in
    let calls = g.D.Sectors.calls c.args.session.now.device in
    subst (λ r. WritesAndFlushes old new r calls (c.args.text.now ++ 10 ∷ [])) (sym reported.1)
    (hands_after {T = ⊤} (Err reported.0) old mid new calls c.args.text.now (10 ∷ []) c.in_ok-put.ensures.puts (part_front mid new calls (10 ∷ []) [] c.in_err-put-2.ensures.puts))

pub returns-clause-reported : goal.returns-clause-reported
returns-clause-reported g c =
    let old = g.W.Sink.stream c.args.writer.now in
    let mid = g.W.Sink.stream c.put.new.self in
    let last = g.W.Sink.stream c.put-2.new.self in
    let new = g.W.Sink.stream c.flush_unlogged.new.writer in
    let calls = g.D.Sectors.calls c.args.session.now.device in
    hands_after c.flush_unlogged.result old mid new calls c.args.text.now (10 ∷ []) c.in_ok-put.ensures.puts
    (hands_after c.flush_unlogged.result mid last new calls (10 ∷ []) [] c.in_ok-put-2.ensures.puts c.flush_unlogged.ensures.reported)
