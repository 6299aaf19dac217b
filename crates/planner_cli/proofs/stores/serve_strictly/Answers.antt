-- The case that the input was served up to an answer that ends a strict run.
use Rattle.std.proofs.Common.{◌≡◌, ◌∙◌, true≢false, length, ap, subst, sym}
use Rattle.std.proofs.lemmas.Option.{same_Some}
use Rattle.command_server.specs.TrackedStream.{held}
use Rattle.command_server.specs.Strict.{ReportsLast}
use Rattle.planner_cli.proofs.MessageLemmas.{served_between, stopped_out}
use Rattle.planner_cli.proofs.stores.serve_strictly.Goals as goal

pub returns : goal.returns
returns g c =
    let served = c.serve_source-served.result in
    record {
      serves = λ input known. record {
        serves = λ reading is. served_between g.D.Sectors served reading c.args.session.now c.serve_source-served.new.session input _ _ _ _
            (ap (λ s. held g.W.Write.contents s.writer) c.new-answers.ensures) (sym (ap (held g.W.Write.contents) c.into_inner.ensures))
            (c.serve_source-served.ensures.serves reading input is known);
        cause = stopped_out served c.serve_source-served.new.reader.has_failed c.serve_source-served.new.writer.writer.has_failed _
            c.serve_source-served.new.writer.reported c.strict_stop-failed_answer.result (length input)
            (ap (λ w. w.has_failed) c.into_inner.ensures) c.strict_stop-failed_answer.ensures.stop (c.serve_source-served.ensures.cause input known);
        most = c.serve_source-served.ensures.most input known;
      };
      plain = λ plain. absurd (true≢false plain);
      moments = c.serve_source-served.ensures.moments;
      last = λ strict whole.
          let answers = c.serve_source-served.new.writer in
          let reported = c.strict_stop-failed_answer.ensures.last (sym (ap (λ w. w.has_failed) c.into_inner.ensures) ∙ whole) in
          let opened : answers.before ≡ held g.W.Write.contents c.args.output =
          same_Some _ _ (ap (λ o. o.before) c.serve_source-served.ensures.origin) ∙ ap (λ s. s.before) c.new-answers.ensures in
          subst (λ b. ReportsLast b (held g.W.Write.contents c.into_inner.result) c.strict_stop-failed_answer.result) opened
          (subst (λ a. ReportsLast answers.before a c.strict_stop-failed_answer.result) (sym (ap (held g.W.Write.contents) c.into_inner.ensures)) reported);
    }
