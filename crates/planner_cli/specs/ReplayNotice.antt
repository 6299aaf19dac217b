-- The line that is printed on standard error before a store is opened: the number of search steps that will be
-- replayed.
use Rattle.std.specs.Prelude.{◌≡◌, ◌⊎◌, ◌==◌, ℕ, List, [], ◌++◌, codes, decimal, Option, if◌then◌else◌}
use Rattle.std.specs.Io.KnownBytes.{Appends}
use Rattle.checkpoint.specs.InvalidImages.{HoldsNothing, UnlessReadFailed}
use Rattle.checkpoint.specs.declared.faults.StoreFault.{StoreFault}
use Rattle.command_text.specs.Answers.{line}
use Rattle.recover.specs.Opening.{IsStepsToReplay}
use Rattle.sector_disk.specs.declared.sectors.Sectors as sectors
use Rattle.state_codec.specs.declared.version.Version.TheVariants.{Two}

-- The line `planner: repeating N search steps`; empty if no step is replayed.
abbrev pub repeating_line : ℕ → List ℕ
repeating_line steps = if steps == 0 then [] else line (codes "planner: repeating " ++ decimal steps ++ codes " search steps")

module _ {D : Type 0} (on : sectors.Ghosts D) where
  -- The line with some number of steps was printed. If the device is honest, `AreMeant` holds for this number.
  -- `after` is the device as the opening leaves it.
  pub record AnnouncesReplay (after : D) (AreMeant : ℕ → Type 0) (before later : Option (List ℕ)) : Type 0 where
    pub steps : ℕ
    pub reported : Appends before later (repeating_line steps)
    pub counts : on.honest after → AreMeant steps

  -- The number of steps that is printed for a device that is not opened because of this fault. It is the number
  -- that its image requires, or 0 if the fault came up while the image was read.
  abbrev pub IsStepsOfImage : D → StoreFault → ℕ → Type 0
  IsStepsOfImage device fault steps = IsStepsToReplay Two (on.seen device) steps ⊎ ((steps ≡ 0) × UnlessReadFailed (HoldsNothing Two (on.seen device)) fault)
