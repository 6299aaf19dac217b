-- The text of a solution has one plan for a problem and its pins, or one reason why it has none.
use Rattle.std.proofs.Common.{ℕ, List, Result, inl, inr}
use Rattle.plan_types.specs.Instance.{Instance, IsInstance}
use Rattle.plan_types.specs.declared.plans.Plan.{Plan}
use Rattle.vehicle_assignment.specs.Laws.{AssignmentIsUnique}
use Rattle.vehicle_assignment.specs.AssignedPlan.{IsFoundOrOutOfMemory}
use Rattle.vehicle_assignment.specs.declared.faults.AssignmentFault.{AssignmentFault}
use Rattle.command_text.specs.Readings.{IsPlanUnlessMemory, IsReading, Reading}

-- the result is the plan of the reading, unless memory ran out
pub plan_once : AssignmentIsUnique → (reading : Reading) → IsReading reading → (p : Instance) (pins : List (List ℕ)) (text : List ℕ) → IsInstance p → (result : Result Plan AssignmentFault)
    → IsFoundOrOutOfMemory p pins text result → IsPlanUnlessMemory result (reading.plan p pins text)
plan_once agree reading is p pins text valid result (inl memory) = inr memory
plan_once agree reading is p pins text valid result (inr found) = inl (agree p pins text result (reading.plan p pins text) found (is.plans p pins text valid))
