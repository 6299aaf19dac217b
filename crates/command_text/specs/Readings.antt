-- The contents of the texts that lines announce.
use Rattle.std.specs.Prelude.{◌≡◌, ◌⊎◌, Result, Err}
use Rattle.plan_types.specs.declared.plans.Plan.{Plan}
use Rattle.instance_read.specs.Readings.{Reading as InstanceReading, IsReading as IsInstanceReading}
use Rattle.vehicle_assignment.specs.Laws.{AssignmentFunction, IsAssignmentFunction}
use Rattle.vehicle_assignment.specs.declared.faults.AssignmentFault.{AssignmentFault}
use Rattle.vehicle_assignment.specs.declared.faults.AssignmentFault.TheVariants.{OutOfMemory}

-- The contents of each text. For an instance in a format, that is the problem or the first fault. For a solution
-- of a problem with pins, it is the plan or the reason why there is none.
pub record Reading : Type 0 where
  pub instance : InstanceReading
  pub plan : AssignmentFunction

-- Both functions return what the text formats define.
pub record IsReading (reading : Reading) : Type 0 where
  pub instances : IsInstanceReading reading.instance
  pub plans : IsAssignmentFunction reading.plan

-- The result is the one that was found, unless memory ran out.
abbrev pub IsPlanUnlessMemory : Result Plan AssignmentFault → Result Plan AssignmentFault → Type 0
IsPlanUnlessMemory result found = (result ≡ found) ⊎ (result ≡ Err OutOfMemory)
