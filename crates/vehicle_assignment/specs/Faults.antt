-- The reasons why a solution is not a plan.
use Rattle.sol_text.specs.declared.faults.SolFault.{SolFault}
use Rattle.sol_text.specs.declared.faults.SolFaultKind.{SolFaultKind}
use Rattle.sol_text.specs.declared.faults.SolFaultKind.TheVariants as sol
use Rattle.vehicle_assignment.specs.declared.faults.AssignmentFault.{AssignmentFault}
use Rattle.vehicle_assignment.specs.declared.faults.AssignmentFault.TheVariants as unseated

abbrev pub by_kind : SolFaultKind → SolFault → AssignmentFault
by_kind sol.OutOfMemory f = unseated.OutOfMemory
by_kind _ f = unseated.Sol f

-- the assignment fault for a fault of the reader
abbrev pub fault_from : SolFault → AssignmentFault
fault_from f = by_kind f.kind f
