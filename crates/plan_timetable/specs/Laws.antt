-- The meaning of a latest start.
use Rattle.std.specs.Prelude.{◌≡◌, ℕ, ◌+◌, ◌≤◌, List, length}
use Rattle.plan_types.specs.Instance.{Instance}
use Rattle.plan_types.specs.declared.requests.Kind.TheVariants.{LiLim}
use Rattle.route_sched.specs.Route.{place}
use Rattle.slack_tables.specs.Insertion.{KeepsLimits}
use Rattle.slack_tables.specs.Latest.{MeetsLaterWindows}
use Rattle.plan_timetable.specs.Entries.{latest_allowed}

-- service that starts at time t at place i is in time, and so are all later services and the return
pub record IsInTime (p : Instance) (route : List ℕ) (i t : ℕ) : Type 0 where
  pub here : t ≤ (place p route i).latest
  pub following : MeetsLaterWindows p route i t

-- t is the greatest start at place i that is in time
pub record IsLatestInTime (p : Instance) (route : List ℕ) (i t : ℕ) : Type 0 where
  pub in_time : IsInTime p route i t
  pub greatest : (u : ℕ) → IsInTime p route i u → u ≤ t

-- law: the latest start of each place, also of the return, is the greatest start that is in time, in a route
-- that keeps the capacity and the windows
abbrev pub LatestStartsAreGreatest : Type 0
LatestStartsAreGreatest = (p : Instance) (route : List ℕ) (i : ℕ) → p.kind ≡ LiLim → KeepsLimits p route → i ≤ length route + 1 → IsLatestInTime p route i (latest_allowed p route i)
