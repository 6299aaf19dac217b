-- The tables so far are those of the vehicles so far, so at the end each vehicle has its own.
use Rattle.std.proofs.Common.{◌≡◌, map, take}
use Rattle.move_ops.specs.FreshTables.{fresh_of}
use Rattle.move_ops.proofs.tables.fresh_tables.Given as goal

abbrev pub invariant-loop-vehicle : goal.invariant-loop-vehicle
invariant-loop-vehicle l = l.fresh.items ≡ map (fresh_of l.problem l.routes) (take l.vehicle-index l.vehicles)
