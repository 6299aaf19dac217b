-- The subcommand `check`: it prints whether the redundant parts of a store that opens agree.
use Rattle.std.specs.Prelude.{◌≡◌, ℕ, List, [], ◌++◌, codes, Option, Result, IfErr, MatchResult, if◌then◌else◌}
use Rattle.std.specs.Io.KnownBytes.{Appends}
use Rattle.checkpoint.specs.Integrity.{AreWarningsOf, has_warning, has_none}
use Rattle.checkpoint.specs.InvalidImages.{HasNoHeader, IsHeaderOrReadFault, UnlessReadFailed}
use Rattle.checkpoint.specs.Layouts.{version_2}
use Rattle.checkpoint.specs.Names.{integrity_warning_name}
use Rattle.checkpoint.specs.Reads.{ReadsOnly}
use Rattle.checkpoint.specs.Refusals.{faults_after_reading}
use Rattle.checkpoint.specs.declared.integrity.IntegrityWarning.{IntegrityWarning}
use Rattle.checkpoint.specs.declared.integrity.IntegrityWarning.TheVariants.{HeaderLost, HeadersApart, RecordDamaged, RecordsMixed}
use Rattle.checkpoint.specs.declared.integrity.IntegrityWarnings.{IntegrityWarnings}
use Rattle.checkpoint.specs.declared.faults.StoreFault.{StoreFault}
use Rattle.command_text.specs.Answers.{line}
use Rattle.planner_cli.specs.ReadOnly.{OpensReadOnly}
use Rattle.planner_cli.specs.Opening.{PrintsOpenFailure}
use Rattle.planner_cli.specs.Run.{PrintsStoreFault}
use Rattle.sector_disk.specs.declared.sectors.Sectors as sectors

-- The line `suspect WARNING`, if the store has this warning, and otherwise nothing.
abbrev pub warning_lines : IntegrityWarnings → IntegrityWarning → List ℕ
warning_lines doubts warning = if has_warning doubts warning then line (codes "suspect " ++ integrity_warning_name warning) else []

-- The lines of all warnings of the store, in this order.
abbrev pub suspect_text : IntegrityWarnings → List ℕ
suspect_text doubts = warning_lines doubts HeaderLost ++ warning_lines doubts HeadersApart ++ warning_lines doubts RecordDamaged ++ warning_lines doubts RecordsMixed

-- `ok` if there is no warning, and otherwise one line per warning.
abbrev pub check_text : IntegrityWarnings → List ℕ
check_text doubts = if has_none doubts then line (codes "ok") else suspect_text doubts

-- The exit status of `check`: 0 if there is no warning, and otherwise 2.
abbrev pub check_status : IntegrityWarnings → ℕ
check_status doubts = if has_none doubts then 0 else 2

-- `ok` or the warnings are printed, and `status` is the exit status.
abbrev pub PrintsWarnings : IntegrityWarnings → Option (List ℕ) → Option (List ℕ) → ℕ → Type 0
PrintsWarnings doubts before after status = (status ≡ check_status doubts) × Appends before after (check_text doubts)

module _ {D : Type 0} (on : sectors.Ghosts D) where
  -- The result of checking the device: the warnings about the image that reads return, or the reason why it was
  -- not checked. The device was only read. So a fault of the device is reported exactly if one more of its calls
  -- has failed.
  pub record IsChecked (device : D) (checked : Result IntegrityWarnings StoreFault) (left : D) : Type 0 where
    pub found : on.honest left → MatchResult checked (AreWarningsOf (on.seen device)) (UnlessReadFailed (HasNoHeader version_2 (on.seen device)))
    pub fails : IfErr checked IsHeaderOrReadFault
    pub reads : ReadsOnly on (faults_after_reading checked) device left

  -- The device was checked, and `ok`, the warnings, or the reason why it was not checked, are printed.
  abbrev pub PrintsCheck : D → Option (List ℕ) → Option (List ℕ) → ℕ → Type 0
  PrintsCheck device before after status =
      (checked : Result IntegrityWarnings StoreFault) × (left : D) × IsChecked device checked left
      × MatchResult checked (λ doubts. PrintsWarnings doubts before after status) (λ fault. PrintsStoreFault fault before after status)

  -- The store in the file is opened for reading only, and the warnings about its image are printed, or the reason
  -- why it can't be opened. `IsShared` says what is known about the device over the file.
  abbrev pub ChecksStore : (List ℕ → D → Type 0) → List ℕ → Option (List ℕ) → Option (List ℕ) → ℕ → Type 0
  ChecksStore IsShared path before after status =
      OpensReadOnly on IsShared path (λ looked. PrintsCheck looked.device before after status) (λ unopened. PrintsOpenFailure path unopened before after status)
