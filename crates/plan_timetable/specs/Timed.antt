-- Properties of a route's table and of its rows that private functions use.
use Rattle.std.specs.Prelude.{◌≡◌, ℕ, ◌+◌, ◌≤◌, ◌&&◌, true, false, List, length, Option, MatchOption}
use Rattle.plan_types.specs.Instance.{Instance}
use Rattle.plan_types.specs.declared.requests.Kind.TheVariants.{LiLim}
use Rattle.route_sched.specs.Route.{place}
use Rattle.plan_audit.specs.Passes.{feasible_alone}
use Rattle.slack_tables.specs.Course.{Course, course_of}
use Rattle.slack_tables.specs.Insertion.{KeepsLimits}
use Rattle.plan_explain.specs.declared.rows.Row.{Row}
use Rattle.plan_timetable.specs.Entries.{has_times}

-- the table of a route with times that is feasible alone
pub record IsTimed (p : Instance) (route : List ℕ) (c : Course) : Type 0 where
  pub kind : p.kind ≡ LiLim
  pub feasible : feasible_alone p route ≡ true
  pub limits : KeepsLimits p route
  pub course : c ≡ course_of p route

-- there is a table exactly if latest starts are printed
abbrev pub IsTableOf : Instance → List ℕ → Option Course → Type 0
IsTableOf p route table = MatchOption table ((has_times p.kind && feasible_alone p route) ≡ false) (IsTimed p route)

-- the row of a stop or of the return
pub record IsRowIn (p : Instance) (route : List ℕ) (row : Row) : Type 0 where
  pub within : row.place ≤ length route + 1
  pub latest : row.latest ≡ (place p route row.place).latest
