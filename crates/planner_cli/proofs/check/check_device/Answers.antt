-- Either the warnings are printed, or the reason why the store could not be read.
use Rattle.std.proofs.Common.{Ok, Err}
use Rattle.std.proofs.lemmas.Result.{IfOk-weaker}
use Rattle.planner_cli.proofs.check.check_device.Goals as goal

pub returns-in-Ok-clause-reported : goal.returns-in-Ok-clause-reported
returns-in-Ok-clause-reported g c =
    IfOk-weaker c.print_warnings.result _ _
    (λ status reported. (Ok c.in-Ok.doubts, c.check_integrity.new.device, (record { found = c.in-Ok.ensures.found; fails = c.in-Ok.ensures.fails; reads = c.in-Ok.ensures.reads }), reported))
    c.print_warnings.ensures

pub returns-in-Err-clause-reported : goal.returns-in-Err-clause-reported
returns-in-Err-clause-reported g c =
    IfOk-weaker c.print_store_fault.result _ _
    (λ status reported. (Err c.in-Err.fault, c.check_integrity.new.device, (record { found = c.in-Err.ensures.found; fails = c.in-Err.ensures.fails; reads = c.in-Err.ensures.reads }), reported))
    c.print_store_fault.ensures.0
