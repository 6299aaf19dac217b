-- The number of replayed steps is printed, then the answers, then a line if the input can't be read.
use Rattle.std.proofs.Common.{◌∙◌, inl, inr, refl, subst, sym, append-nil}
use Rattle.std.specs.Io.KnownBytes.{Appends}
use Rattle.std.proofs.lemmas.Result.{IfOk-weaker}
use Rattle.command_server.specs.TrackedStream.{given_by, held}
use Rattle.planner_cli.specs.Run.{IsInputServed, ServesSession, PrintsServeEnd, opened_line}
use Rattle.planner_cli.proofs.MessageLemmas.{reported_apart}
use Rattle.planner_cli.proofs.stores.serve_opened.Given as given
use Rattle.planner_cli.proofs.stores.serve_opened.Goals as goal

-- The result of serving, even if the line after it can't be printed.
abbrev served : (g : given.Over) (c : goal.After-from_parts g) → ServesSession g.D.Sectors c.args.session.now c.args.replayed c.args.is_strict
    (given_by g.I.Read.remaining c.args.input.now c.serve_input-ended.new.input) (held g.W.Write.contents c.args.output) (held g.W.Write.contents c.from_parts.result)
    c.serve_input-ended.new.input.has_failed c.from_parts.result.has_failed c.serve_input-ended.new.session
served g c =
    let ended = c.serve_input-ended.result in
    let contents = g.W.Write.contents in
    let opened = held contents c.from_parts-output.result in
    let answered = held contents ended.output in
    let failed = c.from_parts.ensures.has_failed ∙ c.into_parts-writer-in-Ok.ensures.has_failed in
    let line = opened_line c.args.replayed in
    let written = reported_apart contents (λ x y. Appends x y line) _ _ _ _ c.into_parts-writer.ensures.inner c.from_parts-output.ensures.inner c.in-Ok.ensures in
    record {
      opened = opened;
      prints_opened = record { written = written; noted = c.from_parts-output.ensures.log ∙ c.into_parts-writer.ensures.log ∙ sym (append-nil c.args.output.log.events) };
      served = ended.served;
      failed_answer = ended.failed_answer;
      answered = answered;
      ends = subst (λ f. IsInputServed g.D.Sectors c.args.session.now c.args.is_strict
          (given_by g.I.Read.remaining c.args.input.now c.serve_input-ended.new.input) opened ended.served ended.failed_answer
          answered c.serve_input-ended.new.input.has_failed f c.serve_input-ended.new.session)
          (sym failed) c.serve_input-ended.ensures;
      noted = c.from_parts.ensures.log ∙ c.into_parts-writer-in-Ok.ensures.log;
    }

pub returns-in-Ok-clause-runs : goal.returns-in-Ok-clause-runs
returns-in-Ok-clause-runs g c =
    let ended = c.serve_input-ended.result in
    let contents = g.W.Write.contents in
    IfOk-weaker c.print_serve_end-reported.result _ _
    (λ status tells. record {
      new = c.serve_input-ended.new.session;
      serves = served g c;
      tells = reported_apart contents (λ x y. PrintsServeEnd ended.served ended.failed_answer x y status) _ _ _ _ c.into_parts-writer-in-Ok.ensures.inner c.from_parts.ensures.inner tells;
    }) c.print_serve_end-reported.ensures.reported

pub returns-in-Ok-clause-serves : goal.returns-in-Ok-clause-serves
returns-in-Ok-clause-serves g c = inl (served g c)

pub returns-in-Err-clause-serves : goal.returns-in-Err-clause-serves
returns-in-Err-clause-serves g c = inr (refl, record { reads = refl; events = c.from_parts-output.ensures.log ∙ c.into_parts-writer.ensures.log })
