-- Laws: each text has one assignment, the plan has the solution's routes, and a solution that passes also
-- passes with the pins.
use Rattle.std.specs.Prelude.{◌≡◌, ◌≤◌, ℕ, true, List, [], length, sum_by, Result, Ok}
use Rattle.plan_types.specs.Instance.{Instance, IsInstance}
use Rattle.plan_types.specs.declared.plans.Cost.{Cost}
use Rattle.plan_types.specs.declared.plans.Plan.{Plan}
use Rattle.route_sched.specs.Cost.{used_count}
use Rattle.plan_audit.specs.Passes.{begin_with_pins}
use Rattle.plan_audit.specs.Verdict.{IsVerdict, planned, printed}
use Rattle.plan_audit.specs.declared.rules.Verdict.TheVariants.{Pass}
use Rattle.vehicle_assignment.specs.AssignedPlan.{IsFound}
use Rattle.vehicle_assignment.specs.Assignments.{assigned_plan}
use Rattle.vehicle_assignment.specs.declared.faults.AssignmentFault.{AssignmentFault}

-- a function from a problem, pins and a text to the plan or the reason why there is none
abbrev pub AssignmentFunction : Type 0
AssignmentFunction = Instance → List (List ℕ) → List ℕ → Result Plan AssignmentFault

abbrev pub IsAssignmentFunction : AssignmentFunction → Type 0
IsAssignmentFunction seating = (p : Instance) (pins : List (List ℕ)) (text : List ℕ) → IsInstance p → IsFound p pins text (seating p pins text)

-- law: there is a function that returns the answer of `IsFound` for each problem, pins and text
abbrev pub AssignmentFunctionExists : Type 0
AssignmentFunctionExists = (seating : AssignmentFunction) × IsAssignmentFunction seating

-- law: for a problem, pins and a text, `IsFound` has at most one answer
abbrev pub AssignmentIsUnique : Type 0
AssignmentIsUnique = (p : Instance) (pins : List (List ℕ)) (text : List ℕ) (found other : Result Plan AssignmentFault) → IsFound p pins text found → IsFound p pins text other → found ≡ other

-- the assigned routes are the given ones: any sum over routes in which an empty one counts 0 is the same, there
-- is one route for each vehicle, and each begins with its vehicle's pin
pub record IsAssignment (fleet : ℕ) (pins routes assigned : List (List ℕ)) : Type 0 where
  pub counted : (f : List ℕ → ℕ) → f [] ≡ 0 → sum_by f assigned ≡ sum_by f routes
  pub all : length assigned ≡ fleet
  pub pinned : begin_with_pins assigned pins ≡ true

-- law: a plan has the routes of the solution, if neither the pins nor the used routes outnumber the vehicles
abbrev pub AssignmentKeepsRoutes : Type 0
AssignmentKeepsRoutes = (fleet : ℕ) (pins routes : List (List ℕ)) (plan : Plan) → length pins ≤ fleet → used_count routes ≤ fleet → assigned_plan fleet pins routes ≡ Ok plan
    → IsAssignment fleet pins routes plan.routes

-- law: if the pins do not outnumber the vehicles, a solution that passes as printed also passes as a plan with
-- the pins, at the same cost, once vehicles are assigned to its routes
abbrev pub AssignedPlansPass : Type 0
AssignedPlansPass = (p : Instance) (pins routes : List (List ℕ)) (distance : ℕ) (cost : Cost) (plan : Plan) → length pins ≤ p.fleet → IsVerdict p (printed routes distance) (Pass cost)
    → assigned_plan p.fleet pins routes ≡ Ok plan → IsVerdict p (planned plan.routes pins) (Pass cost)
