-- The greatest saving when requests are inserted into a plan.
use Rattle.std.specs.Prelude.{◌≡◌, ℕ, ◌+◌, ◌≤◌, true, List}
use Rattle.std.specs.Option.{option_map_or}
use Rattle.plan_types.specs.Instance.{Instance, IsInstance}
use Rattle.plan_types.specs.declared.plans.Cost.{Cost}
use Rattle.plan_types.specs.declared.requests.Request.{Request}
use Rattle.plan_types.specs.declared.requests.Request.TheVariants.{Single, Pair}
use Rattle.route_sched.specs.Cost.{cost_of}
use Rattle.plan_audit.specs.Passes.{passes}
use Rattle.move_ops.specs.Drafts.{placed}
use Rattle.move_ops.specs.Insertion.{request_named}

-- the greatest saving of distance by a request: distances are rounded, so a detour by one more stop may be
-- shorter by 1 than the straight leg
abbrev pub max_saving_by : Request → ℕ
max_saving_by (Single s) = 1
max_saving_by (Pair a b) = 2

-- the greatest saving by the request with this name; a name that is not current saves nothing
abbrev pub max_saving : Instance → ℕ → ℕ
max_saving p name = option_map_or max_saving_by (request_named p name) 0

-- the new plan has at most `requests` unplanned requests fewer, uses no fewer vehicles, and is shorter by at
-- most `far`
pub record SavesAtMost (requests far : ℕ) (old new : Cost) : Type 0 where
  pub unplanned : old.unplanned ≤ new.unplanned + requests
  pub vehicles : old.vehicles ≤ new.vehicles
  pub distance : old.distance ≤ new.distance + far

-- law: inserting a request at its best place saves no more than `SavesAtMost` allows
abbrev pub PlacementsSaveLittle : Type 0
PlacementsSaveLittle = (p : Instance) (pins routes : List (List ℕ)) (name : ℕ)
    → IsInstance p → passes p pins routes ≡ true → SavesAtMost 1 (max_saving p name) (cost_of p routes) (cost_of p (placed p pins routes name))
