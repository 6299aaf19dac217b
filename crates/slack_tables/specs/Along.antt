-- The schedule of stops given by place: `start`, `load` and the like, for a function from places to stops
-- instead of a route.
use Rattle.std.specs.Prelude.{◌≡◌, ℕ, ◌+◌, ◌<◌, ◌≤◌, ◌==◌, ℤ, pos, ◌+ℤ◌, ◌∷◌, map, sum, fold, slice_index_or, if◌then◌else◌}
use Rattle.std.specs.List.{range_with_len}
use Rattle.plan_types.specs.declared.requests.Stop.{Stop}
use Rattle.plan_types.specs.declared.requests.Kind.{Kind}
use Rattle.plan_types.specs.declared.requests.Kind.TheVariants.{LiLim}
use Rattle.nint_dist.specs.Distance.{distance}
use Rattle.route_sched.specs.Chain.{chain}
use Rattle.slack_tables.specs.Course.{Course}

-- the stop at a place of a course: the depot at place 0 and after the last stop
abbrev pub stop_on : Course → ℕ → Stop
stop_on c k = slice_index_or (c.depot ∷ c.stops) k c.depot

-- the time for the service at a place and the leg to the next place
abbrev pub stay : (ℕ → Stop) → ℕ → ℕ
stay at k = (at k).service + distance (at k) (at (k + 1))

-- the start of service at place k: the greatest, over all places j up to k, of the earliest time at j plus the
-- time from j to k
abbrev pub start_along : (ℕ → Stop) → ℕ → ℕ
start_along at k = chain (λ j. (at j).earliest) (stay at) 0 k

abbrev pub moved_along : (ℕ → Stop) → ℕ → ℕ → ℕ → ℕ
moved_along at i t k = chain (λ j. if j == i then t else (at j).earliest) (stay at) i k

unfoldable pub load_along : (ℕ → Stop) → ℕ → ℤ
load_along at k = fold ◌+ℤ◌ (pos 0) (map (λ m. (at m).demand) (range_with_len 1 k))

unfoldable pub length_along : (ℕ → Stop) → ℕ → ℕ
length_along at k = sum (map (λ m. distance (at m) (at (m + 1))) (range_with_len 0 k))

-- with service at place i starting at t, no later window up to place `last` is missed
abbrev pub MeetsLaterWindowsAlong : Kind → (ℕ → Stop) → ℕ → ℕ → ℕ → Type 0
MeetsLaterWindowsAlong kind at last i t = kind ≡ LiLim → (k : ℕ) → i < k → k ≤ last → moved_along at i t k ≤ (at k).latest
