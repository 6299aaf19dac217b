-- The plan that the text of a solution describes.
use Rattle.std.specs.Prelude.{◌≡◌, ◌⊎◌, ℕ, List, Result, Ok, Err}
use Rattle.plan_types.specs.Instance.{Instance}
use Rattle.plan_types.specs.declared.plans.Cost.{Cost}
use Rattle.plan_types.specs.declared.plans.Plan.{Plan}
use Rattle.sol_text.specs.Faults.{IsFirstFault, Spells}
use Rattle.plan_types.specs.declared.solutions.Solution.{Solution}
use Rattle.plan_audit.specs.Verdict.{IsVerdict, printed}
use Rattle.plan_audit.specs.declared.rules.Verdict.{Verdict}
use Rattle.plan_audit.specs.declared.rules.Verdict.TheVariants as verdict
use Rattle.vehicle_assignment.specs.Assignments.{assigned_plan}
use Rattle.vehicle_assignment.specs.declared.faults.AssignmentFault.{AssignmentFault}
use Rattle.vehicle_assignment.specs.declared.faults.AssignmentFault.TheVariants.{Sol, Broken, PinWithoutRoute, OutOfMemory}

-- the function returned the wanted result, or ran out of memory
abbrev pub Gives : {X : Type 0} → Result X AssignmentFault → Result X AssignmentFault → Type 0
Gives (Ok x) wanted = wanted ≡ Ok x
Gives (Err f) wanted = (f ≡ OutOfMemory) ⊎ (wanted ≡ Err f)

-- the text spells the solution s, and s has the verdict v in the problem
abbrev pub IsAudited : Instance → List ℕ → Solution → Verdict → Type 0
IsAudited p text s v = Spells text s × IsVerdict p (printed s.routes s.cost) v

-- the text spells a solution that passes, and `assigned` is the assignment of vehicles to its routes
abbrev pub IsAssignedAs : Instance → List (List ℕ) → List ℕ → Result Plan AssignmentFault → Type 0
IsAssignedAs p pins text assigned = (s : Solution) × (cost : Cost) × IsAudited p text s (verdict.Pass cost) × (assigned_plan p.fleet pins s.routes ≡ assigned)

-- the plan of a text in a problem with these pins; or the text's first fault; or the first violation of its
-- solution; or the first vehicle whose pin begins no remaining route of a passing solution
abbrev pub IsFound : Instance → List (List ℕ) → List ℕ → Result Plan AssignmentFault → Type 0
IsFound p pins text (Ok plan) = IsAssignedAs p pins text (Ok plan)
IsFound p pins text (Err (Sol f)) = IsFirstFault text f
IsFound p pins text (Err (Broken rule route place stop)) = (s : Solution) × IsAudited p text s (verdict.Broken rule route place stop)
IsFound p pins text (Err (PinWithoutRoute v)) = IsAssignedAs p pins text (Err (PinWithoutRoute v))
IsFound p pins text (Err OutOfMemory) = ⊥

-- the answer of `IsFound`, or out of memory
abbrev pub IsFoundOrOutOfMemory : Instance → List (List ℕ) → List ℕ → Result Plan AssignmentFault → Type 0
IsFoundOrOutOfMemory p pins text result = (result ≡ Err OutOfMemory) ⊎ IsFound p pins text result
