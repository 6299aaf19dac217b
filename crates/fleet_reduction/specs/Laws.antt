-- Laws about plans of some of the vehicles and of all of them, and about attempts.
use Rattle.std.specs.Prelude.{◌≡◌, ℕ, ◌+◌, ◌≤◌, Bool, true, List, IsTrue, length}
use Rattle.plan_types.specs.Cost.{cost_at_most}
use Rattle.plan_types.specs.Instance.{Instance}
use Rattle.plan_types.specs.Limits.{IsFleet}
use Rattle.route_sched.specs.Cost.{cost_of, used_count}
use Rattle.plan_audit.specs.Passes.{passes}
use Rattle.anneal_search.specs.declared.attempts.Reduction.{Reduction}
use Rattle.fleet_reduction.specs.Fleets.{kept, marked, picked, put_back, with_fleet}
use Rattle.fleet_reduction.specs.Attempts.{Attempts, all_attempts}

-- law: if a plan passes, the routes of the marked vehicles pass, with their pins, in a fleet of just these
abbrev pub PickedPass : Type 0
PickedPass = (p : Instance) (pins routes : List (List ℕ)) (kept : List Bool) → length kept ≡ p.fleet → length kept ≡ length pins → passes p pins routes ≡ true
    → passes (with_fleet p (marked kept)) (picked kept pins) (picked kept routes) ≡ true

-- only the marked vehicles have a pin
abbrev pub ArePinsOf : List Bool → List (List ℕ) → Type 0
ArePinsOf kept pins = put_back kept (picked kept pins) ≡ pins

-- the vehicles of an attempt with fewer vehicles: at most `count`, and all with a pin are among them
pub record IsSmallSubfleet (pins : List (List ℕ)) (count : ℕ) (subfleet : List Bool) : Type 0 where
  pub own : ArePinsOf subfleet pins
  pub few : marked subfleet ≤ count

-- law: if at most `count` vehicles have a pin, `IsSmallSubfleet` holds for the kept vehicles
abbrev pub KeptAreSubfleets : Type 0
KeptAreSubfleets = (pins routes : List (List ℕ)) (count : ℕ) → length pins ≡ length routes → used_count pins ≤ count → IsSmallSubfleet pins count (kept pins routes count)

-- law: if only the marked vehicles have a pin, a plan of these vehicles, put back at their numbers, passes with the
-- pins
abbrev pub PutBackPass : Type 0
PutBackPass = (p : Instance) (pins routes : List (List ℕ)) (kept : List Bool) → length kept ≡ p.fleet → ArePinsOf kept pins
    → passes (with_fleet p (marked kept)) (picked kept pins) routes ≡ true → passes p pins (put_back kept routes) ≡ true

-- law: a plan of the marked vehicles, put back at their numbers, uses at most as many vehicles as are marked
abbrev pub PutBackUseFewer : Type 0
PutBackUseFewer = (p : Instance) (pins routes : List (List ℕ)) (kept : List Bool) → passes (with_fleet p (marked kept)) pins routes ≡ true
    → used_count (put_back kept routes) ≤ marked kept

-- the result of the attempts
pub record HasAttempts (end : Attempts) (attempt : Reduction) : Type 0 where
  pub plan : attempt.plan.routes ≡ end.plan
  pub step : attempt.step ≡ end.step

-- the properties that attempts keep
pub record AreAttempts (p : Instance) (pins : List (List ℕ)) (count step : ℕ) (t : Attempts) : Type 0 where
  pub plan : passes p pins t.plan ≡ true
  pub first : step ≤ t.step
  pub last : t.step ≤ step + count

-- law: attempts from a plan that passes lead to one that passes, within their steps
abbrev pub AttemptsKeepPlans : Type 0
AttemptsKeepPlans = (p : Instance) (pins routes : List (List ℕ)) (seed count step : ℕ) → length pins ≡ p.fleet → IsFleet p.fleet → passes p pins routes ≡ true
    → AreAttempts p pins count step (all_attempts p pins seed count step routes)

-- law: the plan that the attempts find never costs more than the plan that they begin with
abbrev pub AttemptsNeverCostMore : Type 0
AttemptsNeverCostMore = (p : Instance) (pins routes : List (List ℕ)) (seed count step : ℕ)
    → IsTrue (cost_at_most (cost_of p (all_attempts p pins seed count step routes).plan) (cost_of p routes))
