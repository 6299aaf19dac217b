-- Either the plan of the state is drawn, or the reason why the store could not be read is printed.
use Rattle.std.proofs.Common.{Ok, Err}
use Rattle.std.proofs.KnownBytes.{Appends-nil}
use Rattle.std.proofs.lemmas.Result.{IfOk-weaker}
use Rattle.planner_cli.proofs.draw.draw_store.Goals as goal

pub returns-in-Ok-clause-reported : goal.returns-in-Ok-clause-reported
returns-in-Ok-clause-reported g c =
    let foretold = g.E.Write.contents c.open_read_only.new.errors in
    IfOk-weaker c.draw_state-reported.result _ _ (λ status reported. (foretold, (Ok c.in-Ok.looked, c.in-Ok.ensures.looks, reported))) c.draw_state-reported.ensures.reported

pub returns-in-Err-clause-reported : goal.returns-in-Err-clause-reported
returns-in-Err-clause-reported g c =
    let foretold = g.E.Write.contents c.open_read_only.new.errors in
    let silent = Appends-nil (g.W.Write.contents c.args.output.now) in
    IfOk-weaker c.print_read_only_failure.result _ _
    (λ status reported. (foretold, (Err c.in-Err.unopened, c.in-Err.ensures.looks, (c.in-Err.ensures.announced, reported, silent)))) c.print_read_only_failure.ensures.reported.0
