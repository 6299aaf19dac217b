-- Laws by which the headline composes: over the runs of a session, and over openings that crash or are refused.
use Rattle.std.specs.Prelude.{◌≡◌, ◌≢◌, ℕ, ◌+◌, false, List, [], ◌∷◌, ◌++◌, Result}
use Rattle.sector_disk.specs.Sectors.{Throughout}
use Rattle.sector_disk.specs.declared.sectors.Sectors as sectors
use Rattle.command_types.specs.declared.states.State.{State}
use Rattle.command_types.specs.declared.commands.Command.{Command}
use Rattle.state_codec.specs.declared.version.Version.TheVariants.{Two}
use Rattle.checkpoint.specs.declared.faults.StoreFault.{StoreFault}
use Rattle.checkpoint.specs.declared.faults.StoreFault.TheVariants.{DeviceFault}
use Rattle.recover.specs.declared.replies.Reply.{Reply}
use Rattle.recover.specs.Replies.{kept_commands, acknowledged_count}
use Rattle.recover.specs.RecoversTo.{RecoversTo}
use Rattle.recover.specs.Moments.{RunLeaves}
use Rattle.recover.specs.Sessions.{SessionValue}
use Rattle.recover.specs.Opening.{ReturnsUnlessFailed, Opens, ReadsAfter}
use Rattle.recover.specs.Applying.{IsApplied, IsBetween, IsRun}
use Rattle.recover.specs.Headline.{IsRecovered, LeavesPrefix, OpensToImageState}

module _ {D : Type 0} (on : sectors.Ghosts D) where
  -- The guarantee of `run` for its replies (clause `replies`).
  abbrev pub IsRunOn : SessionValue D → List Command → List Reply → SessionValue D → Type 0
  IsRunOn = IsRun on.len on.calls on.faults on.honest on.clock on.possible_since on.possible

  -- Law: `apply` is a run of one command.
  abbrev pub AppliesAreRuns : Type 0
  AppliesAreRuns = (old new : SessionValue D) (command : Command) (reply : Reply)
      → IsApplied on.len on.calls on.faults on.honest on.clock on.possible_since on.possible old command reply new
      → IsRunOn old (command ∷ []) (reply ∷ []) new

  -- Law: two consecutive runs of a session are one run of the joined lists.
  abbrev pub RunsConcatenate : Type 0
  RunsConcatenate = (old mid new : SessionValue D) (commands more : List Command) (replies later : List Reply)
      → IsRunOn old commands replies mid → IsRunOn mid more later new → IsRunOn old (commands ++ more) (replies ++ later) new

  -- Law: at each moment of the two runs a crash leaves what a run of the joined lists guarantees. So the
  -- headline applies to both runs together, and costs count from the last change in the joined list. The
  -- premise that each image recovers to the session's state when the first run begins is guaranteed by every
  -- session (`images_recover_to_the_state`).
  --
  -- A killed process is not a separate case: the moments before the kill are those of a run in which all later
  -- calls fail.
  abbrev pub RunsCompose : Type 0
  RunsCompose = (old mid new : SessionValue D) (commands more : List Command) (replies later : List Reply)
      → IsRunOn old commands replies mid → IsRunOn mid more later new
      → old.is_broken ≡ false → on.honest new.device → ((image : List ℕ) → on.possible old.device image → RecoversTo Two image old.state)
      → Throughout on.clock on.possible_since old.device new.device (RunLeaves old.state (commands ++ more) (replies ++ later))

  -- A crashed opening of this device. If it had continued, the device would have become `later`, and `open`
  -- would have guaranteed this for each moment (clause `moments`). Each image of the next device is one that a
  -- crash at one of these moments might have left.
  pub record IsCrashedOpening (device later next : D) : Type 0 where
    pub honest : on.honest later
    pub moments : on.honest later → Throughout on.clock on.possible_since device later (λ m image. IsBetween (on.calls device) (on.calls device + 1) m image × on.possible device image)
    pub left : (image : List ℕ) → on.possible next image → (m : ℕ) × on.possible_since later (on.clock device) m image

  -- Crashed openings, one after another, that lead from device `first` to device `last`.
  abbrev pub AreCrashedOpenings : D → List D → D → Type 0
  AreCrashedOpenings first [] last = last ≡ first
  AreCrashedOpenings first (later ∷ laters) last = (next : D) × IsCrashedOpening first later next × AreCrashedOpenings next laters last

  -- Law: a refused opening counts as one that crashed at its end; the device that it returns is the next one.
  abbrev pub RefusedCountAsCrashed : Type 0
  RefusedCountAsCrashed = (device later : D) → on.honest later
      → (on.honest later → Throughout on.clock on.possible_since device later (λ m image. IsBetween (on.calls device) (on.calls device + 1) m image × on.possible device image))
      → IsCrashedOpening device later later

  -- Law: if an opening was refused, but not because the device failed (clause `reads`), the next opening
  -- returns what the refused one would have returned without the refusal.
  abbrev pub RefusedCanBeRetried : Type 0
  RefusedCanBeRetried = (device later left : D) (fault : StoreFault) (outcome : Result State StoreFault)
      → ReadsAfter fault (on.possible device) (on.seen device) (on.seen later) → fault ≢ DeviceFault
      → on.honest left → OpensToImageState on later outcome left → Opens Two (on.seen device) outcome

  -- Law: after any number of crashed openings, each possible image is one that a crash might have left before
  -- the first of them.
  abbrev pub CrashedLeaveSameImages : Type 0
  CrashedLeaveSameImages = (first last : D) (laters : List D) → AreCrashedOpenings first laters last → (image : List ℕ) → on.possible last image → on.possible first image

module _ {D E : Type 0} (on : sectors.Ghosts D) (again : sectors.Ghosts E) where
  -- Law: a run crashed when m calls had finished, and each image of the device that was opened next is one that
  -- the crash might have left. Any number of openings crashed. The last opening returns a state as the headline
  -- describes it for the run.
  abbrev pub HoldsAfterCrashedOpenings : Type 0
  HoldsAfterCrashedOpenings = (old new : SessionValue D) (commands : List Command) (replies : List Reply) (m : ℕ) (first last left : E) (laters : List E) (outcome : Result State StoreFault)
      → old.is_broken ≡ false → on.honest new.device → LeavesPrefix on old commands replies new
      → ((image : List ℕ) → again.possible first image → on.possible_since new.device (on.clock old.device) m image)
      → AreCrashedOpenings again first laters last
      → again.honest last → again.honest left → OpensToImageState again last outcome left
      → ReturnsUnlessFailed (IsRecovered old.state (kept_commands commands replies) (acknowledged_count m replies)) outcome
