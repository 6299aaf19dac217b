-- The case that the device has failed.
use Rattle.std.proofs.Common.{◌≡◌, ◌∙◌, true, sym}
use Rattle.planner_cli.specs.Messages.{is_device_fault}
use Rattle.planner_cli.proofs.messages.print_denial.Goals as goal

pub returns-then-is_device_fault : goal.returns-then-is_device_fault
returns-then-is_device_fault g c =
    let failed : is_device_fault c.args.denial ≡ true = sym c.is_device_fault.ensures ∙ c.if-is_device_fault.true in
    rw failed c.print_line.ensures
