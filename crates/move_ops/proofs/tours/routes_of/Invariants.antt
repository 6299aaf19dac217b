-- The routes so far are those of the tours so far, so at the end they are the plan of all tours.
use Rattle.std.proofs.Common.{◌≡◌, take}
use Rattle.move_ops.specs.Tables.{plan_of}
use Rattle.move_ops.proofs.tours.routes_of.Given as goal

abbrev pub invariant-loop-tour : goal.invariant-loop-tour
invariant-loop-tour l = l.routes ≡ plan_of (take l.tour-index l.tours)
