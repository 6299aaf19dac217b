-- The first limit that a route exceeds: the capacity at any stop (rule 6 of the auditor), then the latest start
-- at a stop (rule 7) or the latest return (rule 8).
use Rattle.std.specs.Prelude.{ℕ, ◌-◌, ◌==◌, not, ◌&&◌, ◌||◌, nat_lt, unsigned_abs, Bool, false, true, if◌then◌else◌, List, Option, Some, None}
use Rattle.std.specs.List.{find}
use Rattle.std.specs.Option.{option_map, option_or}
use Rattle.plan_types.specs.Instance.{Instance}
use Rattle.plan_types.specs.declared.requests.Kind.{Kind}
use Rattle.plan_types.specs.declared.requests.Kind.TheVariants.{LiLim, Vrp}
use Rattle.route_sched.specs.Limits.{is_too_late, exceeds_capacity}
use Rattle.plan_explain.specs.Tables.{rows_of}
use Rattle.plan_explain.specs.declared.rows.Row.{Row}
use Rattle.request_explanation.specs.declared.limit_violations.Limit.{Limit}
use Rattle.request_explanation.specs.declared.limit_violations.Limit.TheVariants.{Capacity, Start, Return}
use Rattle.request_explanation.specs.declared.limit_violations.LimitViolation.{LimitViolation}

-- the load exceeds the capacity after a stop
abbrev pub is_heavy : ℕ → Row → Bool
is_heavy capacity row = not (row.stop == 0) && exceeds_capacity row.load capacity

-- service starts, or the vehicle returns, after the latest time
abbrev pub is_late : Row → Bool
is_late row = is_too_late row.start row.latest

-- an overload and a lateness with their values; the depot is stop 0
abbrev pub overload_at : ℕ → Row → LimitViolation
overload_at capacity row = record { limit = Capacity; stop = row.stop; actual = unsigned_abs row.load; allowed = capacity }

abbrev pub time_limit : ℕ → Limit
time_limit stop = if stop == 0 then Return else Start

abbrev pub lateness_at : Row → LimitViolation
lateness_at row = record { limit = time_limit row.stop; stop = row.stop; actual = row.start; allowed = row.latest }

-- the first lateness of some rows; a problem of kind `Vrp` has no times
abbrev pub lateness_in : Kind → List Row → Option LimitViolation
lateness_in LiLim rows = option_map lateness_at (find is_late rows)
lateness_in Vrp rows = None

abbrev pub overload_in : ℕ → List Row → Option LimitViolation
overload_in capacity rows = option_map (overload_at capacity) (find (is_heavy capacity) rows)

-- the first limit that a route exceeds
abbrev pub violation_in : Instance → List Row → Option LimitViolation
violation_in p rows = option_or (overload_in p.capacity rows) (lateness_in p.kind rows)

abbrev pub violation_of : Instance → List ℕ → Option LimitViolation
violation_of p route = violation_in p (rows_of p route)

-- by how much a limit is exceeded
abbrev pub excess : LimitViolation → ℕ
excess m = m.actual - m.allowed

abbrev pub excess_of : Option LimitViolation → ℕ
excess_of None = 0
excess_of (Some m) = excess m

-- the limit is the capacity
abbrev pub is_load : Limit → Bool
is_load Capacity = true
is_load Start = false
is_load Return = false

abbrev pub is_overload : Option LimitViolation → Bool
is_overload None = false
is_overload (Some m) = is_load m.limit

-- a is less than b: an overload is greater than everything that is not an overload, and within a kind the
-- excess decides. So loads and times are never compared with each other.
abbrev pub violates_less : Option LimitViolation → Option LimitViolation → Bool
violates_less a b =
    if is_overload a then is_overload b && nat_lt (excess_of a) (excess_of b) else (is_overload b || nat_lt (excess_of a) (excess_of b))
