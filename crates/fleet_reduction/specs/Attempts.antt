-- Attempts with fewer vehicles, one after another, and attempts to serve the unplanned requests.
use Rattle.std.specs.Prelude.{ℕ, zero, suc, ◌+◌, ◌-◌, ◌/◌, nat_lt, nat_le, ◌==◌, ◌&&◌, not, max, min, Bool, true, List, replicate, Option, Some, None, if◌then◌else◌}
use Rattle.plan_types.specs.Cost.{cost_at_most}
use Rattle.plan_types.specs.Instance.{Instance}
use Rattle.plan_types.specs.declared.requests.Kind.{Kind}
use Rattle.plan_types.specs.declared.requests.Kind.TheVariants.{LiLim, Vrp}
use Rattle.route_sched.specs.Cost.{cost_of, unplanned_count, used_count}
use Rattle.anneal_search.specs.AttemptState.{AttemptState, begun, attempt_steps}
use Rattle.annealing_schedule.specs.Stages.{mean_leg_share}
use Rattle.fleet_reduction.specs.Fleets.{kept, marked, picked, put_back, with_fleet}

-- the state between attempts: the plan, the number of the next step, and how many vehicles the next attempt
-- leaves out
pub record Attempts : Type 0 where
  pub plan : List (List ℕ)
  pub step : ℕ
  pub size : ℕ

-- the state before the first attempt, which leaves a sixteenth of the vehicles out, but at least one
abbrev pub first_attempts : List (List ℕ) → ℕ → Attempts
first_attempts routes step = record { plan = routes; step = step; size = max 1 (used_count routes / 16) }

-- the plan has all requests
abbrev pub serves_all : Instance → List (List ℕ) → Bool
serves_all p routes = unplanned_count p routes == 0

-- the step before which the next attempt ends. The `count` steps of all attempts end before step `end`. If the plan
-- has all requests (`whole`) and the attempt leaves several vehicles out, it has at most an eighth of these steps
abbrev pub limit : Bool → ℕ → ℕ → Attempts → ℕ
limit whole count end t = if whole && nat_lt 1 t.size then min end (t.step + count / 8) else end

module _ (p : Instance) (pins : List (List ℕ)) where
  -- the vehicles of the next attempt, if there is one: all if the plan leaves requests unplanned; otherwise n
  -- vehicles, `size` fewer than the plan uses, if n is at least 1 and at least the number of vehicles with a
  -- pin
  abbrev pub subfleet : Attempts → Option (List Bool)
  subfleet t =
      if not (serves_all p t.plan) then Some (replicate p.fleet true)
      else if nat_lt t.size (used_count t.plan) && nat_le (used_count pins) (used_count t.plan - t.size) then Some (kept pins t.plan (used_count t.plan - t.size)) else None

  -- the attempt with these vehicles; a candidate may be longer than its working plan by ten mean legs of the
  -- present plan
  abbrev pub attempt : ℕ → ℕ → Attempts → List Bool → AttemptState
  attempt seed last t subfleet =
      let smaller = with_fleet p (marked subfleet) in
      attempt_steps smaller (picked subfleet pins) (mean_leg_share p t.plan 1000) seed (last - t.step) (begun smaller (picked subfleet t.plan) t.step)

  -- the state after an attempt: the attempt's plan, put back for all vehicles, if it costs no more than the
  -- present plan; and half as many vehicles to leave out if the attempt failed
  abbrev pub after_attempt : Attempts → List Bool → AttemptState → Attempts
  after_attempt t subfleet end =
      let found = put_back subfleet end.incumbent in
      record {
        plan = if cost_at_most (cost_of p found) (cost_of p t.plan) then found else t.plan;
        step = end.step;
        size = if serves_all p t.plan && not (serves_all p found) then t.size / 2 else t.size;
      }

  -- the state after the next attempt; if there is none, half as many vehicles are to be left out
  abbrev pub next_by : ℕ → ℕ → ℕ → Attempts → Option (List Bool) → Attempts
  next_by seed count end t None = record t { size = t.size / 2 }
  next_by seed count end t (Some subfleet) = after_attempt t subfleet (attempt seed (limit (serves_all p t.plan) count end t) t subfleet)

  abbrev pub next : ℕ → ℕ → ℕ → Attempts → Attempts
  next seed count end t = next_by seed count end t (subfleet t)

  -- steps remain, and the number of vehicles to leave out is not yet 0
  abbrev pub can_continue : ℕ → Attempts → Bool
  can_continue end t = nat_lt t.step end && nat_lt 0 t.size

  -- at most the given number of attempts, one after another
  unfoldable pub attempts_from : ℕ → ℕ → ℕ → ℕ → Attempts → Attempts
  attempts_from seed count end zero t = t
  attempts_from seed count end (suc left) t = if can_continue end t then attempts_from seed count end left (next seed count end t) else t

  -- an upper bound on the number of attempts: each makes a step, or lowers the number of used vehicles, or the
  -- number of vehicles that the next attempt leaves out
  abbrev pub max_attempts : ℕ → Attempts → ℕ
  max_attempts count t = count + (p.fleet + 1 + t.size)

  -- the state after the attempts; for `Vrp`, where vehicles do not count, there are none
  abbrev pub attempts_of : Kind → ℕ → ℕ → Attempts → Attempts
  attempts_of LiLim seed count t = attempts_from seed count (t.step + count) (max_attempts count t) t
  attempts_of Vrp seed count t = t

  -- the state after the attempts within `count` steps, beginning with this step and this plan
  abbrev pub all_attempts : ℕ → ℕ → ℕ → List (List ℕ) → Attempts
  all_attempts seed count step routes = attempts_of p.kind seed count (first_attempts routes step)
