-- The names of faults and integrity warnings.
use Rattle.std.specs.Prelude.{ℕ, List, codes}
use Rattle.checkpoint.specs.declared.integrity.IntegrityWarning.{IntegrityWarning}
use Rattle.checkpoint.specs.declared.integrity.IntegrityWarning.TheVariants as warnings
use Rattle.checkpoint.specs.declared.faults.FormatFault.{FormatFault}
use Rattle.checkpoint.specs.declared.faults.FormatFault.TheVariants as format
use Rattle.checkpoint.specs.declared.faults.StoreFault.{StoreFault}
use Rattle.checkpoint.specs.declared.faults.StoreFault.TheVariants as store

abbrev pub format_fault_name : FormatFault → List ℕ
format_fault_name format.TooSmall = codes "TooSmall"
format_fault_name format.DeviceFault = codes "DeviceFault"
format_fault_name format.OutOfMemory = codes "OutOfMemory"

abbrev pub store_fault_name : StoreFault → List ℕ
store_fault_name store.NotFormatted = codes "NotFormatted"
store_fault_name store.BadVersion = codes "BadVersion"
store_fault_name (store.Codec fault) = codes "Codec"
store_fault_name store.Spent = codes "Spent"
store_fault_name store.OutOfMemory = codes "OutOfMemory"
store_fault_name store.DeviceFault = codes "DeviceFault"

abbrev pub integrity_warning_name : IntegrityWarning → List ℕ
integrity_warning_name warnings.HeaderLost = codes "HeaderLost"
integrity_warning_name warnings.HeadersApart = codes "HeadersApart"
integrity_warning_name warnings.RecordDamaged = codes "RecordDamaged"
integrity_warning_name warnings.RecordsMixed = codes "RecordsMixed"
