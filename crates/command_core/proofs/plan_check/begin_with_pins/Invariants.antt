-- All routes begin with their pins if the remaining ones do
use Rattle.std.proofs.Common.{◌≡◌, drop}
use Rattle.plan_audit.specs.Passes.{begin_with_pins}
use Rattle.command_core.proofs.plan_check.begin_with_pins.Given as goal

abbrev pub invariant-loop-pin : goal.invariant-loop-pin
invariant-loop-pin l = begin_with_pins l.left (drop l.pin-index l.pins) ≡ begin_with_pins l.routes l.pins
