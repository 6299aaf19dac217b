-- A number without a hint is a stop of the remaining tours or of none, so at the end it is of none.
use Rattle.std.proofs.Common.{◌≡◌, ◌≤◌, length}
use Rattle.move_ops.specs.Tables.{plan_of}
use Rattle.move_ops.proofs.HintLemmas.{AreSeatsTo}
use Rattle.move_ops.proofs.tours.set_hints_of_tours.Given as goal

abbrev pub invariant-loop-tour : goal.invariant-loop-tour
invariant-loop-tour l = record {
  vehicle_hints : AreSeatsTo l.vehicle_hints (plan_of l.tours) l.tour-index;
  len : length l.vehicle_hints ≡ length l.fn.vehicle_hints;
  vehicle : 1 ≤ l.vehicle;
}
