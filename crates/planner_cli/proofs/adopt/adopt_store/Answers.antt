-- Either the opened store adopts the plan, or the reason why the store was not opened is printed.
use Rattle.std.proofs.Common.{Ok, Err, ap}
use Rattle.std.specs.Prelude.{Some}
use Rattle.planner_cli.proofs.adopt.adopt_store.Goals as goal

pub returns-in-Ok-clause-adopts : goal.returns-in-Ok-clause-adopts
returns-in-Ok-clause-adopts g c =
    let new = c.adopt_text-reported.new.session in
    (Ok c.in-Ok.opened, c.in-Ok.ensures.opens, (new, ap (λ d. Some d) c.close_store-device.ensures, c.adopt_text-reported.ensures.adopts))

pub returns-in-Err-clause-adopts : goal.returns-in-Err-clause-adopts
returns-in-Err-clause-adopts g c = (Err c.in-Err.unopened, c.in-Err.ensures.opens, (c.print_open_failure.ensures.left, c.print_open_failure.ensures.reported))
