-- The remaining tables lead from the ones so far to the result of all, so at the end the result is reached.
use Rattle.std.proofs.Common.{◌≡◌, length}
use Rattle.std.specs.Vec.Iter.{into_iter_items}
use Rattle.move_ops.specs.FreshTables.{replaced, AreWithin}
use Rattle.move_ops.proofs.tables.Tables.replace.Given as goal

abbrev pub invariant-loop-vehicle : goal.invariant-loop-vehicle
invariant-loop-vehicle l = record {
  all : replaced l.self-inside.tables.items (into_iter_items l.vehicle-iterator) ≡ replaced l.fn.self l.fn.fresh.items;
  within : AreWithin (length l.self-inside.tables.items) (into_iter_items l.vehicle-iterator);
}
