-- Command lines that request an audit: the files that they read, the output, standard error, and the status.
use Rattle.std.specs.Prelude.{◌≡◌, ◌⊎◌, ℕ, true, List, Option, codes}
use Rattle.std.specs.Io.KnownBytes.{Appends}
use Rattle.clap.specs.Words.{Text}
use Rattle.command_line.specs.Invocations.{InvocationValue, IsUsageStatus, asks_help, audit, audits, built_in, explain}
use Rattle.plan_types.specs.declared.requests.Kind.TheVariants.{LiLim}
use Rattle.instance_read.specs.Formats.{format_of}
use Rattle.text_lines.specs.Lines.{with_line_feed}
use Rattle.auditor_cli.specs.IgnoredLines.{PrintsIgnored}
use Rattle.auditor_cli.specs.Explain.{ExplainsFiles}
use Rattle.auditor_cli.specs.Files.{AreReadInTurn, PrintsFiles}
use Rattle.auditor_cli.specs.Audits.{PrintsList}
use Rattle.auditor_cli.specs.Reads.{FileRead, IsReadFirst}
use Rattle.auditor_cli.specs.Messages.{PrintsAudit, example_instance, example_solution}

-- The files that were read, newest first, and the contents of the output and of standard error, if they are
-- known.
pub record World : Type 0 where
  pub files : List FileRead
  pub output : Option (List ℕ)
  pub errors : Option (List ℕ)

-- The world with these files and contents.
abbrev pub world : List FileRead → Option (List ℕ) → Option (List ℕ) → World
world files output errors = record { files = files; output = output; errors = errors }

-- The reads of a subcommand: both files in their order, the list before any other file, or none. This holds even
-- if an answer can't be printed.
abbrev pub AreReadFor : InvocationValue → List FileRead → List FileRead → Type 0
AreReadFor (audit paths routes_alone) was now = AreReadInTurn paths.instance paths.solution was now
AreReadFor (audits format list routes_alone) was now = IsReadFirst list was now
AreReadFor (explain paths routes_alone) was now = AreReadInTurn paths.instance paths.solution was now
AreReadFor _ was now = now ≡ was

-- The line for a subcommand that only `planner` has.
abbrev pub planner_only_line : List ℕ
planner_only_line = with_line_feed (codes "auditor: only planner has this command; auditor has audit, audits and explain")

-- The subcommand was executed, its answer was printed, and it ended with this status.
abbrev pub Does : InvocationValue → World → World → ℕ → Type 0
Does built_in old new status = PrintsAudit (format_of LiLim) example_instance example_solution old.output new.output status × (new.errors ≡ old.errors)
Does (audit paths routes_alone) old new status =
    PrintsFiles routes_alone paths.format paths.instance paths.solution old.files new.files old.output new.output status
    × PrintsIgnored paths.format paths.instance paths.solution old.files new.files old.errors new.errors
Does (audits format list routes_alone) old new status =
    PrintsList routes_alone format list old.files new.files old.output new.output old.errors new.errors status
Does (explain paths routes_alone) old new status =
    ExplainsFiles routes_alone paths.format paths.instance paths.solution old.files new.files old.output new.output status
    × PrintsIgnored paths.format paths.instance paths.solution old.files new.files old.errors new.errors
Does _ old new status = (status ≡ 64) × ((new.output ≡ old.output) × Appends old.errors new.errors planner_only_line)

-- The parsed command line was executed, and its answer was printed; or an answer could not be printed, and the
-- status is 3.
pub record Works (asked : InvocationValue) (old new : World) (status : ℕ) : Type 0 where
  pub does : Does asked old new status ⊎ (status ≡ 3)
  pub reads : AreReadFor asked old.files new.files

-- The parsed command line was executed; or memory ran out while it was parsed, so nothing was done and the
-- status is 4.
abbrev pub EndsWith : InvocationValue → World → World → ℕ → Type 0
EndsWith asked old new status = Works asked old new status ⊎ ((status ≡ 4) × (new ≡ old))

-- The command line requests help or has an error, so no file is read. Help leaves standard error unchanged, and
-- a usage error leaves the output unchanged. The status is 0 only if help was requested, otherwise one of
-- `IsUsageStatus`. Status 4 means that memory ran out and nothing was printed.
pub record PrintsUsage (asked : List Text) (old new : World) (status : ℕ) : Type 0 where
  pub files : new.files ≡ old.files
  pub help : status ≡ 0 → new.errors ≡ old.errors
  pub mistake : status ≡ 64 → new.output ≡ old.output
  pub memory : status ≡ 4 → new ≡ old
  pub statuses : ((status ≡ 0) × (asks_help asked ≡ true)) ⊎ IsUsageStatus status
