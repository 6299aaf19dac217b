-- A route into which a request fits nowhere for less than a bound.
use Rattle.std.specs.Prelude.{◌≡◌, ◌<ℤ◌, ℕ, ℤ, Some, None}
use Rattle.plan_types.specs.Instance.{Instance, IsInstance}
use Rattle.plan_types.specs.declared.requests.Request.{Request}
use Rattle.plan_types.specs.declared.requests.Request.TheVariants.{Single}
use Rattle.plan_types.specs.declared.requests.Stop.{Stop}
use Rattle.slack_tables.specs.Best.{IsBestAddition}
use Rattle.slack_tables.specs.Course.{Course, course_route, IsCourseIn}
use Rattle.slack_tables.specs.Insertion.{request_named}

-- for any number of kept stops, the request fits nowhere for less than `below` into a route with this course,
-- in each problem that has this course and this request
abbrev pub FitsNowhere : Course → Request → ℤ → Type 0
FitsNowhere c r below =
    (p : Instance) (name kept : ℕ) → IsInstance p → IsCourseIn p c → request_named p name ≡ Some r → IsBestAddition p (course_route c) r kept below None

-- a single with a demand above `max_demand` fits nowhere into a route with this course
abbrev pub IsMaxDemand : Course → ℤ → Type 0
IsMaxDemand c max_demand = (s : Stop) (below : ℤ) → max_demand <ℤ s.demand → FitsNowhere c (Single s) below
