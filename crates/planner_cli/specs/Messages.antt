-- The lines that the program prints, and the exit status for each.
use Rattle.std.specs.Prelude.{◌≡◌, ℕ, List, ◌++◌, codes, Option, Result, IfErr, IfOk, MatchResult, Bool, true, false, if◌then◌else◌}
use Rattle.std.specs.Io.KnownBytes.{Appends}
use Rattle.checkpoint.specs.Names.{format_fault_name, store_fault_name}
use Rattle.checkpoint.specs.declared.faults.FormatFault.{FormatFault}
use Rattle.checkpoint.specs.declared.faults.FormatFault.TheVariants as format
use Rattle.checkpoint.specs.declared.faults.StoreFault.{StoreFault}
use Rattle.checkpoint.specs.declared.faults.StoreFault.TheVariants as store
use Rattle.instance_read.specs.Names.{kind_name}
use Rattle.instance_read.specs.declared.faults.ReadFault.{ReadFault}
use Rattle.instance_read.specs.declared.faults.ReadFaultKind.{ReadFaultKind}
use Rattle.instance_read.specs.declared.faults.ReadFaultKind.TheVariants as read
use Rattle.recover.specs.Names.{denial_name}
use Rattle.recover.specs.declared.denials.Denial.{Denial}
use Rattle.recover.specs.declared.denials.Denial.TheVariants as denial
use Rattle.file_disk.specs.declared.file_device.FileFault.{FileFault}
use Rattle.file_disk.specs.declared.file_device.FileFault.TheVariants as file
use Rattle.command_server.specs.Streams.{Puts, Stream}
use Rattle.command_text.specs.Answers.{line}
use Rattle.auditor_cli.specs.AnswerText.{fault_text}

-- Some prefix of the text was written: nothing, a part of it, or all of it.
pub record WritesPrefix (text : List ℕ) (before after : Option (List ℕ)) : Type 0 where
  pub part : List ℕ
  pub rest : List ℕ
  pub whole : part ++ rest ≡ text
  pub put : Appends before after part

-- The text was written and the exit status returned; or a write failed, and at most a prefix of the text was
-- written. In both cases nothing else was written, for example no `ok` before the work was done.
abbrev pub PrintsText : {E : Type 0} → List ℕ → ℕ → Option (List ℕ) → Option (List ℕ) → Result ℕ E → Type 0
PrintsText text status before after reported =
    IfOk reported (λ given. (given ≡ status) × Appends before after text) × IfErr reported (λ error. WritesPrefix text before after)

-- `ok` was written when the device had finished this number of calls, and the exit status is 0. Or a write
-- failed, and at most a prefix of `ok` was written at that moment.
abbrev pub PrintsOk : {E : Type 0} → ℕ → Stream → Stream → Result ℕ E → Type 0
PrintsOk calls before after reported = IfOk reported (λ status. status ≡ 0) × Puts before after reported calls (line (codes "ok"))

-- The line for a store's file that can't be opened or made.
abbrev pub file_fault_line : List ℕ → FileFault → List ℕ
file_fault_line path file.NoFile = line (codes "cannot read " ++ path)
file_fault_line path file.BadLength = line (codes "store BadLength")
file_fault_line path file.OutOfMemory = line (codes "store OutOfMemory")
file_fault_line path file.InUse = line (codes "store InUse")

-- The exit status for a store's file that can't be opened or made: 3 if the system refuses it or it is in use, 2
-- for a wrong length, 4 if memory ran out.
abbrev pub file_fault_status : FileFault → ℕ
file_fault_status file.NoFile = 3
file_fault_status file.BadLength = 2
file_fault_status file.OutOfMemory = 4
file_fault_status file.InUse = 3

-- The line for a store's file that can't be opened or made is printed, and `status` is its exit status.
abbrev pub PrintsFileFault : List ℕ → FileFault → Option (List ℕ) → Option (List ℕ) → ℕ → Type 0
PrintsFileFault path fault before after status = (status ≡ file_fault_status fault) × Appends before after (file_fault_line path fault)

-- The line for the file of a new store that can't be made, after an old store was opened.
abbrev pub new_file_fault_line : List ℕ → FileFault → List ℕ
new_file_fault_line path file.NoFile = line (codes "cannot read " ++ path)
new_file_fault_line path file.BadLength = line (codes "new BadLength")
new_file_fault_line path file.OutOfMemory = line (codes "new OutOfMemory")
new_file_fault_line path file.InUse = line (codes "new InUse")

-- The line for the reason why no store was made on a device, except for the new store of an upgrade.
abbrev pub format_fault_line : FormatFault → List ℕ
format_fault_line fault = line (codes "store " ++ format_fault_name fault)

-- The line for the reason why the new store of an upgrade was not made on its device.
abbrev pub new_format_fault_line : FormatFault → List ℕ
new_format_fault_line fault = line (codes "new " ++ format_fault_name fault)

-- The exit status if no store was made: 2 if the device is too small, 3 if it failed, 4 if memory ran out.
abbrev pub format_fault_status : FormatFault → ℕ
format_fault_status format.TooSmall = 2
format_fault_status format.DeviceFault = 3
format_fault_status format.OutOfMemory = 4

-- `ok` is printed for a store that was made, when the device had finished this number of calls; or the line of
-- the fault is printed.
abbrev pub PrintsFormatResult : {T E : Type 0} → (FormatFault → List ℕ) → Result T FormatFault → ℕ → Stream → Stream → Result ℕ E → Type 0
PrintsFormatResult line_of made calls before after reported =
    MatchResult made (λ done. PrintsOk calls before after reported)
    (λ fault. PrintsText (line_of fault) (format_fault_status fault) before.contents after.contents reported)

-- The line for the reason why a store was not opened.
abbrev pub store_fault_line : StoreFault → List ℕ
store_fault_line fault = line (codes "store " ++ store_fault_name fault)

-- The exit status if a store was not opened: 3 if the device failed, 4 if memory ran out, 2 for any other fault.
abbrev pub store_fault_status : StoreFault → ℕ
store_fault_status store.DeviceFault = 3
store_fault_status store.OutOfMemory = 4
store_fault_status _ = 2

-- Whether the denial reports that the device failed during the command.
abbrev pub is_device_fault : Denial → Bool
is_device_fault denial.DeviceFault = true
is_device_fault _ = false

-- The line for a denied command: `fault device` if the device failed, and otherwise `no` and the denial's name.
abbrev pub denial_line : Denial → List ℕ
denial_line denial = if is_device_fault denial then line (codes "fault device") else line (codes "no " ++ denial_name denial)

-- The exit status for a denied command: 3 if the device failed, 4 if memory ran out, 2 for any other denial.
abbrev pub denial_status : Denial → ℕ
denial_status denial.DeviceFault = 3
denial_status denial.OutOfMemory = 4
denial_status _ = 2

-- `ok` is printed for a command that the session executed, when its device had finished this number of calls; or
-- the reason why it was denied is printed, with its exit status.
abbrev pub PrintsAnswer : {T E : Type 0} → (Denial → ℕ) → Result T Denial → ℕ → Stream → Stream → Result ℕ E → Type 0
PrintsAnswer status_of answer calls before after reported =
    MatchResult answer (λ done. PrintsOk calls before after reported)
    (λ denial. PrintsText (denial_line denial) (status_of denial) before.contents after.contents reported)

-- Whether the fault is that memory ran out.
abbrev pub is_out_of_memory : ReadFaultKind → Bool
is_out_of_memory read.OutOfMemory = true
is_out_of_memory _ = false

-- The line for the first fault of an instance: `out of memory`, or `instance FAULT LINE` with the number of the
-- line.
abbrev pub instance_fault_line : ReadFault → List ℕ
instance_fault_line fault = if is_out_of_memory fault.kind then line (codes "out of memory") else line (fault_text (codes "instance") (kind_name fault.kind) fault.line)

-- The exit status for the first fault of an instance: 4 if memory ran out, and otherwise 2.
abbrev pub instance_fault_status : ReadFault → ℕ
instance_fault_status fault = if is_out_of_memory fault.kind then 4 else 2

-- The line for the first fault of an instance is printed, and `status` is its exit status.
abbrev pub PrintsInstanceFault : ReadFault → Option (List ℕ) → Option (List ℕ) → ℕ → Type 0
PrintsInstanceFault fault before after status = (status ≡ instance_fault_status fault) × Appends before after (instance_fault_line fault)
