-- The greatest demands so far are those of the tours so far, so at the end each tour has its own.
use Rattle.std.proofs.Common.{◌≡◌, length}
use Rattle.move_ops.specs.MaxDemands.{AreMaxDemands}
use Rattle.move_ops.proofs.max_demands.max_demands_of.Given as goal

abbrev pub invariant-loop-index : goal.invariant-loop-index
invariant-loop-index l = record {
  count : length l.max_demands.items ≡ l.index;
  max_demands : AreMaxDemands l.tours l.max_demands.items;
}
