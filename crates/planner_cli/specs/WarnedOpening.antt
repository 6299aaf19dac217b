-- The line that `run` prints on standard error before it opens a suspect store: the first integrity warning.
use Rattle.std.specs.Prelude.{◌≡◌, ◌⊎◌, ℕ, List, [], ◌++◌, codes, Option, Some, None, if◌then◌else◌}
use Rattle.std.specs.Io.KnownBytes.{Appends}
use Rattle.checkpoint.specs.Integrity.{AreWarningsOf, has_warning}
use Rattle.checkpoint.specs.InvalidImages.{HasNoHeader, UnlessReadFailed}
use Rattle.checkpoint.specs.Layouts.{version_2}
use Rattle.checkpoint.specs.Names.{integrity_warning_name}
use Rattle.checkpoint.specs.declared.integrity.IntegrityWarning.{IntegrityWarning}
use Rattle.checkpoint.specs.declared.integrity.IntegrityWarning.TheVariants.{HeaderLost, HeadersApart, RecordDamaged, RecordsMixed}
use Rattle.checkpoint.specs.declared.integrity.IntegrityWarnings.{IntegrityWarnings}
use Rattle.checkpoint.specs.declared.faults.StoreFault.{StoreFault}
use Rattle.command_text.specs.Answers.{line}
use Rattle.planner_cli.specs.ReplayNotice.{AnnouncesReplay}
use Rattle.sector_disk.specs.declared.sectors.Sectors as sectors

-- The first integrity warning, in the order in which `check` prints them.
abbrev pub first_warning : IntegrityWarnings → Option IntegrityWarning
first_warning doubts =
    if has_warning doubts HeaderLost then Some HeaderLost
    else if has_warning doubts HeadersApart then Some HeadersApart
    else if has_warning doubts RecordDamaged then Some RecordDamaged
    else if has_warning doubts RecordsMixed then Some RecordsMixed
    else None

-- The line `planner: STORE: suspect WARNING`, with the store's path and the name of the warning; empty if there
-- is no warning.
abbrev pub warning_line : List ℕ → Option IntegrityWarning → List ℕ
warning_line store None = []
warning_line store (Some warning) = line (codes "planner: " ++ store ++ codes ": suspect " ++ integrity_warning_name warning)

-- The first integrity warning about an image that has a valid header; `None` if there is no warning.
abbrev pub IsFirstWarning : List ℕ → Option IntegrityWarning → Type 0
IsFirstWarning image warning = (doubts : IntegrityWarnings) × AreWarningsOf image doubts × (warning ≡ first_warning doubts)

-- The first integrity warning about an image whose store is not opened because of this fault; `None` also if the
-- fault came up while the headers were read.
abbrev pub IsWarningOfImage : List ℕ → StoreFault → Option IntegrityWarning → Type 0
IsWarningOfImage image fault warning = IsFirstWarning image warning ⊎ ((warning ≡ None) × UnlessReadFailed (HasNoHeader version_2 image) fault)

module _ {D : Type 0} (on : sectors.Ghosts D) where
  -- The line of the warning was printed first, if there is one, and then the number of search steps to replay. If
  -- the device is honest, `IsMeant` holds for the warning and `AreMeant` for the number. `after` is the device as
  -- the opening leaves it.
  pub record IsWarned (after : D) (store : List ℕ) (IsMeant : Option IntegrityWarning → Type 0) (AreMeant : ℕ → Type 0) (before later : Option (List ℕ)) : Type 0 where
    pub warning : Option IntegrityWarning
    pub warned : Option (List ℕ)
    pub reported : Appends before warned (warning_line store warning)
    pub first : on.honest after → IsMeant warning
    pub foretold : AnnouncesReplay on after AreMeant warned later
