-- Either the store in the new file is opened, or there is a reason why there is no file.
use Rattle.std.proofs.Common.{◌<◌, arith}
use Rattle.std.specs.Prelude.{◌^◌}
use Rattle.checkpoint.specs.Layouts.{version_2, sectors_in}
use Rattle.planner_cli.proofs.new_file.open_new.Goals as goal

pub returns-in-Ok-clause-opens : goal.returns-in-Ok-clause-opens
returns-in-Ok-clause-opens g c =
    let short : sectors_in version_2 < 2 ^ 54 = omega arith in
    c.open_in_new_file.ensures c.args.store.now (c.in-Ok.ensures.reported short, c.in-Ok.ensures.len)

pub returns-in-Err-clause-opens : goal.returns-in-Err-clause-opens
returns-in-Err-clause-opens g c =
    let short : sectors_in version_2 < 2 ^ 54 = omega arith in
    c.in-Err.ensures.reported short
