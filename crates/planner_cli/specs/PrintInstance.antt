-- The subcommand `instance`: it prints the instance that a store holds, and names the KIND of the printed text.
use Rattle.std.specs.Prelude.{◌≡◌, ◌⊎◌, ℕ, Bool, true, false, List, ◌++◌, codes, Option}
use Rattle.std.specs.Io.KnownBytes.{Appends}
use Rattle.plan_types.specs.Instance.{Instance}
use Rattle.instance_read.specs.Formats.{format_word}
use Rattle.instance_read.specs.declared.formats.Format.{Format}
use Rattle.instance_text.specs.Formats.{has_format, text_format}
use Rattle.instance_text.specs.Texts.{instance_text}
use Rattle.auditor_cli.specs.Messages.{PrintsOutOfMemory}
use Rattle.command_types.specs.declared.states.State.{State}
use Rattle.command_types.specs.declared.states.State.TheVariants.{Empty, Loaded}
use Rattle.command_text.specs.Answers.{line}
use Rattle.planner_cli.specs.ReadOnly.{OpensReadOnly}
use Rattle.planner_cli.specs.Opening.{PrintsOpenFailure}
use Rattle.sector_disk.specs.declared.sectors.Sectors as sectors

-- The line on standard error that names the KIND of the printed text: `planner: the instance is printed as KIND`.
unfoldable pub line_of_kind : List ℕ → List ℕ
line_of_kind word = line (codes "planner: the instance is printed as " ++ word)

-- The line that names the KIND of this format.
abbrev pub kind_line : Format → List ℕ
kind_line format = line_of_kind (format_word format)

-- The instance is printed as a text, and then its KIND on standard error, with status 0; or memory ran out.
abbrev pub WritesText : Instance → Option (List ℕ) → Option (List ℕ) → Option (List ℕ) → Option (List ℕ) → ℕ → Type 0
WritesText p output after errors later status =
    ((status ≡ 0) × Appends output after (instance_text p) × Appends errors later (kind_line (text_format p))) ⊎ PrintsOutOfMemory output after status

-- The instance is printed if its format can express it; otherwise `no NoFormat`, with status 2.
abbrev pub WritesIfExpressible : Bool → Instance → Option (List ℕ) → Option (List ℕ) → Option (List ℕ) → Option (List ℕ) → ℕ → Type 0
WritesIfExpressible true p output after errors later status = WritesText p output after errors later status
WritesIfExpressible false p output after errors later status = (status ≡ 2) × Appends output after (line (codes "no NoFormat"))

-- The instance is printed in the format for it, or `no NoFormat` if that format can't express it.
abbrev pub WritesInstance : Instance → Option (List ℕ) → Option (List ℕ) → Option (List ℕ) → Option (List ℕ) → ℕ → Type 0
WritesInstance p output after errors later status = WritesIfExpressible (has_format p) p output after errors later status

-- The instance of a state is printed, or `no NoInstance` with status 2 if nothing is loaded.
abbrev pub WritesState : State → Option (List ℕ) → Option (List ℕ) → Option (List ℕ) → Option (List ℕ) → ℕ → Type 0
WritesState Empty output after errors later status = (status ≡ 2) × Appends output after (line (codes "no NoInstance"))
WritesState (Loaded job) output after errors later status = WritesInstance job.problem output after errors later status

-- The store in the file is opened for reading only, and its instance is printed, or the reason why there is none.
-- `IsShared` says what is known about the device over the file. `foretold` is the content of standard error after
-- the line with the number of replayed search steps.
abbrev pub WritesStore : {D : Type 0} → sectors.Ghosts D → (List ℕ → D → Type 0) → List ℕ → Option (List ℕ) → Option (List ℕ) → Option (List ℕ) → ℕ → Type 0
WritesStore {D} on IsShared path output after later status =
    (foretold : Option (List ℕ))
    × OpensReadOnly on IsShared path (λ looked. WritesState looked.state output after foretold later status) (λ unopened. PrintsOpenFailure path unopened output after status)
