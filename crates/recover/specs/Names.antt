-- The names of denials, of refused upgrades and of the faults of rounds.
use Rattle.std.specs.Prelude.{ℕ, List, codes}
use Rattle.command_types.specs.Names.{refusal_name}
use Rattle.checkpoint.specs.Names.{store_fault_name, format_fault_name}
use Rattle.recover.specs.declared.denials.Denial.{Denial}
use Rattle.recover.specs.declared.denials.Denial.TheVariants.{Broken, Core, Spent, OutOfMemory, DeviceFault}
use Rattle.recover.specs.declared.upgrading.UpgradeFault.{UpgradeFault}
use Rattle.recover.specs.declared.upgrading.UpgradeFault.TheVariants.{Old, New}
use Rattle.recover.specs.declared.rounds.RoundsFault.{RoundsFault}
use Rattle.recover.specs.declared.rounds.RoundsFault.TheVariants as rounds

abbrev pub denial_name : Denial → List ℕ
denial_name Broken = codes "Broken"
denial_name (Core refusal) = refusal_name refusal
denial_name Spent = codes "Spent"
denial_name OutOfMemory = codes "OutOfMemory"
denial_name DeviceFault = codes "DeviceFault"

abbrev pub upgrade_fault_name : UpgradeFault → List ℕ
upgrade_fault_name (Old fault) = store_fault_name fault
upgrade_fault_name (New fault) = format_fault_name fault

abbrev pub rounds_fault_name : RoundsFault → List ℕ
rounds_fault_name (rounds.Open fault) = store_fault_name fault
rounds_fault_name rounds.OutOfMemory = codes "OutOfMemory"
