-- The data that a draft keeps besides its routes.
use Rattle.std.specs.Prelude.{◌≡◌, ◌≤◌, ℕ, false, List, length, Some, slice_get, vec_capacity}
use Rattle.route_sched.specs.Cost.{has_stop}
use Rattle.move_ops.specs.Tables.{plan_of}
use Rattle.move_ops.specs.Drafts.{DraftState, AreIdleAfter}
use Rattle.move_ops.specs.UndoLog.{AreOnce}
use Rattle.move_ops.specs.FreshTables.{AreWithin}
use Rattle.move_ops.specs.MaxDemands.{AreMaxDemands}
use Rattle.move_ops.specs.declared.draft.Draft.TheInside.{Inside}

-- a stop with 0 in this list is in no route; any other number is the vehicle to look at first
abbrev pub AreVehicleHints : List ℕ → List (List ℕ) → Type 0
AreVehicleHints vehicle_hints routes = (n : ℕ) → slice_get vehicle_hints n ≡ Some 0 → has_stop routes n ≡ false

abbrev pub draft_state : Inside → DraftState
draft_state a = record { tours = a.tours.items; log = a.log.items; pinned = a.pinned.items; cost = a.cost; base_cost = a.base_cost }

pub record IsDraftInvariant (a : Inside) : Type 0 where
  pub vehicle_hints : AreVehicleHints a.vehicle_hints.items (plan_of a.tours.items)
  pub within : AreWithin (length a.tours.items) a.log.items
  pub once : AreOnce a.log.items
  -- the log has room for each vehicle
  pub room : length a.tours.items ≤ vec_capacity a.log
  pub used_len : a.used_len ≤ length a.tours.items
  pub idle : AreIdleAfter a.used_len (plan_of a.tours.items)
  pub max_demands : AreMaxDemands a.tours.items a.max_demands.items
