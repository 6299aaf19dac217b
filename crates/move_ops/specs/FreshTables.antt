-- New tables for some vehicles.
use Rattle.std.specs.Prelude.{ℕ, ◌-◌, ◌≤◌, List, [], ◌∷◌, slice_set}
use Rattle.std.specs.List.{AllByRecursion}
use Rattle.plan_types.specs.Instance.{Instance}
use Rattle.slack_tables.specs.Course.{Course, course_of}
use Rattle.move_ops.specs.Insertion.{route_of}

-- a vehicle with the table of its route
abbrev pub fresh_of : Instance → List (List ℕ) → ℕ → ℕ × Course
fresh_of p routes v = (v, course_of p (route_of routes v))

-- the tables after the table of each entry replaces the one of its vehicle
abbrev pub replaced : List Course → List (ℕ × Course) → List Course
replaced tables [] = tables
replaced tables (f ∷ rest) = replaced (slice_set tables (f.0 - 1) f.1) rest

-- each entry has a vehicle of a fleet of n
abbrev pub AreWithin : ℕ → List (ℕ × Course) → Type 0
AreWithin n fresh = AllByRecursion (λ f. (1 ≤ f.0) × (f.0 ≤ n)) fresh
