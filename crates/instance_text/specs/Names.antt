-- The names of faults.
use Rattle.std.specs.Prelude.{ℕ, List, codes}
use Rattle.instance_text.specs.declared.faults.WriteFault.{WriteFault}
use Rattle.instance_text.specs.declared.faults.WriteFault.TheVariants.{NoFormat, OutOfMemory}

abbrev pub fault_name : WriteFault → List ℕ
fault_name NoFormat = codes "NoFormat"
fault_name OutOfMemory = codes "OutOfMemory"
