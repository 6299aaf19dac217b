-- The names of faults.
use Rattle.std.specs.Prelude.{ℕ, List, codes}
use Rattle.sol_text.specs.declared.faults.SolFaultKind.{SolFaultKind}
use Rattle.sol_text.specs.declared.faults.WriteSolFault.{WriteSolFault}
use Rattle.sol_text.specs.declared.faults.WriteSolFault.TheVariants as write
use Rattle.sol_text.specs.declared.faults.SolFaultKind.TheVariants.{BadLine, BadNumber, NoCost, OutOfMemory}

abbrev pub kind_name : SolFaultKind → List ℕ
kind_name BadLine = codes "BadLine"
kind_name BadNumber = codes "BadNumber"
kind_name NoCost = codes "NoCost"
kind_name OutOfMemory = codes "OutOfMemory"

abbrev pub write_fault_name : WriteSolFault → List ℕ
write_fault_name (write.Unplanned n) = codes "Unplanned"
write_fault_name write.OutOfMemory = codes "OutOfMemory"
