-- The remaining tours have the stop exactly when all have it, so the first tour that has it decides, and at the
-- end none has it.
use Rattle.std.proofs.Common.{◌≡◌, drop}
use Rattle.route_sched.specs.Cost.{has_stop}
use Rattle.move_ops.specs.Tables.{plan_of}
use Rattle.move_ops.proofs.tours.vehicle_with.Given as goal

abbrev pub invariant-loop-index : goal.invariant-loop-index
invariant-loop-index l = has_stop (plan_of (drop l.index l.tours)) l.stop ≡ has_stop (plan_of l.tours) l.stop
