-- Either the formatted device is opened, or formatting it failed for this reason.
use Rattle.planner_cli.proofs.StoreLemmas.{opening_of_formatted}
use Rattle.planner_cli.proofs.new_file.format_and_open.Goals as goal

pub returns-in-Ok : goal.returns-in-Ok
returns-in-Ok g c = λ path bare.
    let made = c.format_device in
    opening_of_formatted _ _ _ c.args.device made.new.device made.result _ bare c.in-Ok.is made.ensures.formatted c.open_device.result c.open_device.ensures
