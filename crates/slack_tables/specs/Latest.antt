-- The latest start of service at a place from which no later window is missed.
use Rattle.std.specs.Prelude.{◌≡◌, ℕ, ◌+◌, ◌-◌, ◌<◌, ◌≤◌, ◌==◌, List, map, length, Option, MatchOption, if◌then◌else◌}
use Rattle.std.specs.List.{range_with_len}
use Rattle.plan_types.specs.Instance.{Instance}
use Rattle.plan_types.specs.declared.requests.Kind.TheVariants.{LiLim}
use Rattle.route_sched.specs.Route.{place}
use Rattle.route_sched.specs.Schedule.{time_between, greatest}

-- the start of service at place k if service at place i starts at time t: the greatest, over all places j from
-- i to k, of the earliest time at j plus the time from j to k; for j = i, t is used instead of the earliest
-- time
unfoldable pub moved_start : Instance → List ℕ → ℕ → ℕ → ℕ → ℕ
moved_start p route i t k = greatest (map (λ j. (if j == i then t else (place p route j).earliest) + time_between p route j k) (range_with_len i (k + 1 - i)))

-- with this start at place i neither a later window nor the return is missed; the window of place i itself does
-- not count, and without time windows nothing is missed
abbrev pub MeetsLaterWindows : Instance → List ℕ → ℕ → ℕ → Type 0
MeetsLaterWindows p route i t = p.kind ≡ LiLim → (k : ℕ) → i < k → k ≤ length route + 1 → moved_start p route i t k ≤ (place p route k).latest

-- t is the greatest start at place i that misses no later window
pub record IsLatestStart (p : Instance) (route : List ℕ) (i t : ℕ) : Type 0 where
  pub continues_within_limits : MeetsLaterWindows p route i t
  pub greatest : (u : ℕ) → MeetsLaterWindows p route i u → u ≤ t

-- the latest start, or `None` if any start will do
abbrev pub IsLatestStartLimit : Instance → List ℕ → ℕ → Option ℕ → Type 0
IsLatestStartLimit p route i answer = MatchOption answer ((t : ℕ) → MeetsLaterWindows p route i t) (IsLatestStart p route i)
