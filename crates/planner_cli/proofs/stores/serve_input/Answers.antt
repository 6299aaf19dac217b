-- The case that the input was served to its end.
use Rattle.std.proofs.Common.{◌∙◌, true≢false, refl, sym}
use Rattle.planner_cli.proofs.MessageLemmas.{unless_stopped}
use Rattle.planner_cli.proofs.stores.serve_input.Goals as goal

pub returns : goal.returns
returns g c =
    record {
      serves = λ input known. record {
        serves = λ reading is. c.serve_source-served.ensures.serves reading input is known;
        cause = unless_stopped c.serve_source-served.result c.serve_source-served.new.reader.has_failed c.serve_source-served.new.writer.has_failed _ (c.serve_source-served.ensures.cause input known);
        most = c.serve_source-served.ensures.most input known;
      };
      plain = λ plain. refl;
      moments = c.serve_source-served.ensures.moments;
      last = λ strict. absurd (true≢false (sym strict ∙ c.if-is_strict.false));
    }
