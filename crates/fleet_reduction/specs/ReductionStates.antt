-- The state between attempts in the code, and the properties of an attempt's vehicles.
use Rattle.std.specs.Prelude.{◌≡◌, ℕ, ◌+◌, ◌-◌, ◌<◌, ◌≤◌, Bool, true, List, length, if◌then◌else◌}
use Rattle.plan_types.specs.Instance.{Instance}
use Rattle.plan_types.specs.Limits.{IsFleet}
use Rattle.route_sched.specs.Cost.{used_count}
use Rattle.plan_audit.specs.Passes.{passes}
use Rattle.fleet_reduction.specs.Fleets.{marked}
use Rattle.fleet_reduction.specs.Laws.{ArePinsOf}
use Rattle.fleet_reduction.specs.Attempts.{Attempts, serves_all}
use Rattle.fleet_reduction.specs.declared.attempts.ReductionState.{ReductionState}

abbrev pub attempts_by : ReductionState → Attempts
attempts_by r = record { plan = r.plan.routes; step = r.step; size = r.size }

-- some of the vehicles; all vehicles with a pin are among them. If the plan leaves no request out, they are fewer
-- than the vehicles that the plan uses
pub record IsSubfleet (p : Instance) (pins : List (List ℕ)) (t : Attempts) (subfleet : List Bool) : Type 0 where
  pub long : length subfleet ≡ p.fleet
  pub some : IsFleet (marked subfleet)
  pub own : ArePinsOf subfleet pins
  pub fewer : serves_all p t.plan ≡ true → marked subfleet < used_count t.plan

-- the invariant between attempts
pub record IsBetweenAttempts (p : Instance) (pins : List (List ℕ)) (end : ℕ) (t : Attempts) : Type 0 where
  pub plan : passes p pins t.plan ≡ true
  pub last : t.step ≤ end

-- an upper bound on the remaining attempts: each makes a step, or lowers the number of used vehicles, or the
-- number of vehicles that the next attempt leaves out
abbrev pub attempts_left : Instance → ℕ → Attempts → ℕ
attempts_left p end t = end - t.step + ((if serves_all p t.plan then used_count t.plan else p.fleet + 1) + t.size)
