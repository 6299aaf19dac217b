-- Sequences of device calls, and commits made of such calls.
use Rattle.std.specs.Prelude.{◌≡◌, ◌⊎◌, ℕ, ◌+◌, ◌<◌, ◌≤◌, List, Result, OnOk}
use Rattle.sector_disk.specs.declared.sectors.Sectors as sectors
use Rattle.sector_disk.specs.Sectors.{IsCalled, Throughout}

-- The state within a commit of `steps` calls: an image has X before the commit and Y after it. At this moment m
-- calls have finished in all; `calls` is their number at the start. Until `quiet` calls of the commit have
-- finished, each image has X.
pub record IsInCommit (X Y : List ℕ → Type 0) (steps quiet calls m : ℕ) (image : List ℕ) : Type 0 where
  pub from : calls ≤ m
  pub to : m ≤ calls + steps
  pub early : m < calls + quiet → X image
  pub either : X image ⊎ Y image
  pub done : m ≡ calls + steps → Y image

module _ {D : Type 0} (on : sectors.Ghosts D) where
  -- The relation between a device before and after some calls, whatever they answer.
  abbrev pub Calls : (ℕ → ℕ → Type 0) → (ℕ → ℕ) → D → D → Type 0
  Calls = IsCalled on.len on.calls on.faults on.honest

  -- Each image that a crash may leave has X.
  abbrev pub Each : D → (List ℕ → Type 0) → Type 0
  Each device X = (image : List ℕ) → on.possible device image → X image

  -- `within` holds at each moment of the calls from the old device to the new one
  abbrev pub During : D → D → (ℕ → ℕ → List ℕ → Type 0) → Type 0
  During old new within = Throughout on.clock on.possible_since old new (within (on.calls old))

  -- A commit of `steps` calls: at each moment of it each image has X or Y, and after Ok each has Y.
  pub record Commits {T E : Type 0} (result : Result T E) (steps quiet : ℕ) (X Y : List ℕ → Type 0) (old new : D) : Type 0 where
    pub moments : During old new (IsInCommit X Y steps quiet)
    pub after : OnOk result (Each new Y)

  -- A commit, if the device is honest and each of its images had X.
  abbrev pub CommitsFrom : {T E : Type 0} → Result T E → ℕ → ℕ → (List ℕ → Type 0) → (List ℕ → Type 0) → D → D → Type 0
  CommitsFrom result steps quiet X Y old new = on.honest new → Each old X → Commits result steps quiet X Y old new
