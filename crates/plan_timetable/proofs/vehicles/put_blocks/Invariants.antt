-- The text so far, followed by that of the remaining vehicles, is the whole text.
use Rattle.std.proofs.Common.{◌≡◌, ◌+◌, ◌++◌, drop}
use Rattle.plan_timetable.specs.Timetable.{blocks_from}
use Rattle.plan_timetable.proofs.vehicles.put_blocks.Given as goal

abbrev pub invariant-loop-place : goal.invariant-loop-place
invariant-loop-place l = l.text ++ blocks_from l.form l.problem (l.place + 1) (drop l.place l.routes) ≡ l.fn.text ++ blocks_from l.form l.problem 1 l.routes
