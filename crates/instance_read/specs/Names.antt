-- The names of faults, as answers print them.
use Rattle.std.specs.Prelude.{ℕ, List, codes}
use Rattle.instance_read.specs.declared.faults.ReadFaultKind.{ReadFaultKind}
use Rattle.instance_read.specs.declared.faults.ReadFaultKind.TheVariants.{BadNumber, Range, FieldCount, TaskOrder, PairMismatch, EmptyWindow, TooManyStops}
use Rattle.instance_read.specs.declared.faults.ReadFaultKind.TheVariants.{MissingKey, Unsupported, DepotNotFirst, NodeRepeated, Truncated, OutOfMemory}

abbrev pub kind_name : ReadFaultKind → List ℕ
kind_name BadNumber = codes "BadNumber"
kind_name Range = codes "Range"
kind_name FieldCount = codes "FieldCount"
kind_name TaskOrder = codes "TaskOrder"
kind_name PairMismatch = codes "PairMismatch"
kind_name EmptyWindow = codes "EmptyWindow"
kind_name TooManyStops = codes "TooManyStops"
kind_name MissingKey = codes "MissingKey"
kind_name Unsupported = codes "Unsupported"
kind_name DepotNotFirst = codes "DepotNotFirst"
kind_name NodeRepeated = codes "NodeRepeated"
kind_name Truncated = codes "Truncated"
kind_name OutOfMemory = codes "OutOfMemory"
