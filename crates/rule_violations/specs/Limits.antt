-- The greatest load, and the latest times.
use Rattle.std.specs.Prelude.{ℕ, ℤ, Bool, false}
use Rattle.plan_types.specs.Instance.{Instance}
use Rattle.plan_types.specs.declared.requests.Kind.{Kind}
use Rattle.plan_types.specs.declared.requests.Kind.TheVariants.{LiLim, Vrp}
use Rattle.route_sched.specs.Limits.{is_too_late, exceeds_capacity}

-- whether a load exceeds the capacity
abbrev pub is_overload : Instance → ℤ → Bool
is_overload p load = exceeds_capacity load p.capacity

-- whether a time is after the latest one, in a problem with times
abbrev pub is_late_for_kind : Kind → ℕ → ℕ → Bool
is_late_for_kind LiLim time latest = is_too_late time latest
is_late_for_kind Vrp time latest = false

abbrev pub is_late : Instance → ℕ → ℕ → Bool
is_late p time latest = is_late_for_kind p.kind time latest
