-- Either both files were read and the solution is drawn, or one of them could not be read.
use Rattle.std.proofs.Common.{subst, inl, inr}
use Rattle.std.proofs.KnownBytes.{Appends-nil}
use Rattle.std.proofs.lemmas.Result.{IfOk-weaker}
use Rattle.std.specs.Prelude.{IfOk}
use Rattle.planner_cli.specs.Draw.{IsDrawing}
use Rattle.planner_cli.proofs.draw.draw_files.Goals as goal

pub returns-in-Err-clause-reported : goal.returns-in-Err-clause-reported
returns-in-Err-clause-reported g c =
    let unread = c.in-Err.unread in
    IfOk-weaker c.print_read_failure.result _ _
    (λ status reported. inr (record {
      path = unread.path.now;
      error = unread.kind;
      unread = c.in-Err.ensures;
      reported = reported;
      silent = Appends-nil (g.W.Write.contents c.args.output.now);
    })) c.print_read_failure.ensures

pub returns-clause-reported : goal.returns-clause-reported
returns-clause-reported g c =
    let kind = c.args.paths.format in
    let route = c.args.route in
    let both = c.in-Ok.both in
    let drawn = c.draw_texts-drawn.result in
    let draws = subst (λ x. IfOk drawn (IsDrawing kind route x both.1.items)) c.deref.ensures.value
    (subst (λ y. IfOk drawn (IsDrawing kind route c.deref.result.now y)) c.deref-2.ensures.value c.draw_texts-drawn.ensures) in
    IfOk-weaker c.print_draw_result.result _ _
    (λ status reported. inl (record { x = both.0.items; y = both.1.items; read = c.in-Ok.ensures; drawn = drawn; draws = draws; reported = reported })) c.print_draw_result.ensures
