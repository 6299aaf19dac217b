-- The tours so far are those of the routes so far. The remaining routes are all feasible alone exactly when all
-- are. So at the end each route has its tour.
use Rattle.std.proofs.Common.{◌≡◌, drop}
use Rattle.std.specs.List.{list_all}
use Rattle.plan_audit.specs.Passes.{feasible_alone}
use Rattle.move_ops.specs.Changes.{removals}
use Rattle.move_ops.specs.Drafts.{draft_of}
use Rattle.move_ops.proofs.TourLemmas.{AreToursTo}
use Rattle.move_ops.proofs.draft.Draft.tours_without.Given as goal

abbrev pub invariant-loop-vehicle : goal.invariant-loop-vehicle
invariant-loop-vehicle l = record {
  tours : AreToursTo l.problem (removals l.problem l.names (draft_of l.fn.self) l.vehicles) l.vehicle-index l.tours.items;
  left : list_all (λ c. feasible_alone l.problem c.route)
      (drop l.vehicle-index (removals l.problem l.names (draft_of l.fn.self) l.vehicles))
      ≡ list_all (λ c. feasible_alone l.problem c.route) (removals l.problem l.names (draft_of l.fn.self) l.vehicles);
  same : l.self ≡ l.fn.self;
}
