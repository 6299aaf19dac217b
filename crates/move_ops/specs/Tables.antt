-- The tables of a plan's routes.
use Rattle.std.specs.Prelude.{◌≡◌, ℕ, ◌≤◌, false, All, List, length, map}
use Rattle.plan_types.specs.Instance.{Instance}
use Rattle.plan_audit.specs.Passes.{has}
use Rattle.slack_tables.specs.Course.{Course, course_of, course_route}
use Rattle.move_ops.specs.Insertion.{route_of}

-- the table of each route
abbrev pub tables_of : Instance → List (List ℕ) → List Course
tables_of p routes = map (course_of p) routes

-- the plan of the tables
abbrev pub plan_of : List Course → List (List ℕ)
plan_of tables = map course_route tables

-- these are tables of the problem: it has their kind, capacity and depot, and their stops under their numbers
abbrev pub AreTablesIn : Instance → List Course → Type 0
AreTablesIn p tables = tables_of p (plan_of tables) ≡ tables

-- these are vehicles of the fleet
abbrev pub AreVehicles : Instance → List ℕ → Type 0
AreVehicles p vehicles = All (λ v. (1 ≤ v) × (v ≤ p.fleet)) vehicles

-- the plans have equally many routes, and differ only at these vehicles
pub record DifferOnlyAt (vehicles : List ℕ) (old new : List (List ℕ)) : Type 0 where
  pub long : length old ≡ length new
  pub others : (v : ℕ) → has vehicles v ≡ false → route_of old v ≡ route_of new v
