-- Either the instance of the state is printed, or the reason why the store could not be read.
use Rattle.std.proofs.Common.{Ok, Err}
use Rattle.std.proofs.lemmas.Result.{IfOk-weaker}
use Rattle.planner_cli.proofs.instance.write_store.Goals as goal

pub returns-in-Ok-clause-reported : goal.returns-in-Ok-clause-reported
returns-in-Ok-clause-reported g c =
    let foretold = g.E.Write.contents c.open_read_only.new.errors in
    IfOk-weaker c.write_state-reported.result _ _ (λ status reported. (foretold, (Ok c.in-Ok.looked, c.in-Ok.ensures.looks, reported))) c.write_state-reported.ensures.reported

pub returns-in-Err-clause-reported : goal.returns-in-Err-clause-reported
returns-in-Err-clause-reported g c =
    let foretold = g.E.Write.contents c.open_read_only.new.errors in
    IfOk-weaker c.print_read_only_failure.result _ _
    (λ status reported. (foretold, (Err c.in-Err.unopened, c.in-Err.ensures.looks, reported))) c.print_read_only_failure.ensures.reported.0
