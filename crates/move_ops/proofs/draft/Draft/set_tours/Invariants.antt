-- The remaining tours lead from the plan so far to the plan with all; vehicles and distance are those of the
-- plan so far. So at the end they are those of the new plan.
use Rattle.std.proofs.Common.{◌≡◌, ◌≤◌, ◌+◌, ◌*◌, ◌^◌, length}
use Rattle.std.specs.Vec.Iter.{into_iter_items}
use Rattle.route_sched.specs.Cost.{total_length, vehicle_count}
use Rattle.move_ops.specs.Tables.{AreTablesIn}
use Rattle.move_ops.specs.Changes.{changes_of, with_routes, AreCourses}
use Rattle.move_ops.specs.Drafts.{undone, draft_of}
use Rattle.move_ops.specs.FreshTables.{AreWithin}
use Rattle.move_ops.proofs.draft.Draft.set_tours.Given as goal

abbrev pub invariant-loop-vehicle : goal.invariant-loop-vehicle
invariant-loop-vehicle l = record {
  vehicles : l.vehicles ≡ vehicle_count l.problem.kind (draft_of l.self);
  driven : l.driven ≡ total_length l.problem (draft_of l.self);
  few : l.driven ≤ (length l.yielded + 1) * 2 ^ 64;
  tables : AreTablesIn l.problem l.self.tours;
  within : AreWithin (length l.self.tours) (into_iter_items l.vehicle-iterator);
  courses : AreCourses l.problem (into_iter_items l.vehicle-iterator);
  plan : with_routes (draft_of l.self) (changes_of (into_iter_items l.vehicle-iterator)) ≡ with_routes (draft_of l.fn.self) (changes_of l.fn.tours.items);
  base : undone l.self.tours l.self.log ≡ undone l.fn.self.tours l.fn.self.log;
  pinned : l.self.pinned ≡ l.fn.self.pinned;
  base_cost : l.self.base_cost ≡ l.fn.self.base_cost;
}
