-- The effect of a commit on the content of images, and on the states to which images recover.
use Rattle.std.proofs.Common.{◌≡◌, ℕ, List, [], ◌∷◌, ◌++◌, refl, sym, ◌∙◌, ap, subst}
use Rattle.std.specs.Prelude.{Result}
use Rattle.std.proofs.lemmas.Result.{on_ok_weaker}
use Rattle.sector_disk.specs.declared.sectors.Sectors as sectors
use Rattle.sector_disk.specs.Throughout.{weakened}
use Rattle.command_core.specs.Effects.{effect}
use Rattle.command_core.specs.Runs.{after, AreAccepted}
use Rattle.command_types.specs.declared.states.State.{State}
use Rattle.command_types.specs.declared.commands.Command.{Command}
use Rattle.state_codec.specs.declared.version.Version.TheVariants.{Two}
use Rattle.checkpoint.specs.declared.places.Place.{Place}
use Rattle.checkpoint.specs.Holds.{Holds, HoldsAt}
use Rattle.sector_disk.specs.Calls.{Commits}
use Rattle.sector_disk.specs.CommitLaws.{within_by, unquiet}
use Rattle.recover.specs.RecoversTo.{RecoversTo}
use Rattle.recover.specs.Sessions.{AllHold}
use Rattle.checkpoint.specs.declared.faults.StoreFault.{StoreFault}
use Rattle.checkpoint.specs.declared.faults.StoreFault.TheVariants.{NotFormatted, BadVersion, Codec, Spent, OutOfMemory, DeviceFault}
use Rattle.recover.specs.Committing.{CommitsState, LeavesDevice, cause}
use Rattle.checkpoint.specs.Refusals.{IsRefusedCommit}

pub after-append : (state : State) (first more : List Command) → after state (first ++ more) ≡ after (after state first) more
after-append state [] more = refl
after-append state (command ∷ first) more = after-append (effect state command) first more

pub accepted-append : (state : State) (first more : List Command) → AreAccepted state first → AreAccepted (after state first) more → AreAccepted state (first ++ more)
accepted-append state [] more left right = right
accepted-append state (command ∷ first) more left right = (left.0, left.1, accepted-append (effect state command) first more left.2 right)

module _ (new : State) (next : Place) where
  pub held_new : (image : List ℕ) → Holds Two image new [] next → RecoversTo Two image new
  held_new image holds = record { snapshot = new; commands = []; place = next; holds = holds; accepted = tt; leads = refl }

  pub all_new : (after_it : List ℕ → Type 0) → ((image : List ℕ) → after_it image → Holds Two image new [] next) → AllHold after_it new next
  all_new after_it each = record { snapshot = new; commands = []; accepted = tt; leads = refl; each = each }

-- images that hold a state and commands recover to the state after the commands
module _ (images : List ℕ → Type 0) (state : State) (place : Place) (all : AllHold images state place) where
  pub held : (image : List ℕ) → Holds Two image all.snapshot all.commands place → RecoversTo Two image state
  held image holds = record { snapshot = all.snapshot; commands = all.commands; place = place; holds = holds; accepted = all.accepted; leads = all.leads }

  module _ (command : Command) (accepted : AreAccepted state (command ∷ [])) (next : Place) where
    accepted_more : AreAccepted all.snapshot (all.commands ++ command ∷ [])
    accepted_more = accepted-append all.snapshot all.commands (command ∷ []) all.accepted (subst (λ (s : State). AreAccepted s (command ∷ [])) (sym all.leads) accepted)

    leads_on : after all.snapshot (all.commands ++ command ∷ []) ≡ effect state command
    leads_on = after-append all.snapshot all.commands (command ∷ []) ∙ ap (λ (s : State). effect s command) all.leads

    pub held_more : (image : List ℕ) → Holds Two image all.snapshot (all.commands ++ command ∷ []) next → RecoversTo Two image (effect state command)
    held_more image holds = record { snapshot = all.snapshot; commands = all.commands ++ command ∷ []; place = next; holds = holds; accepted = accepted_more; leads = leads_on }

    -- with one more record, the images hold one more command
    pub all_more : (after_it : List ℕ → Type 0) → ((image : List ℕ) → after_it image → Holds Two image all.snapshot (all.commands ++ command ∷ []) next) → AllHold after_it (effect state command) next
    all_more after_it each = record { snapshot = all.snapshot; commands = all.commands ++ command ∷ []; accepted = accepted_more; leads = leads_on; each = each }

    -- a commit of the command's record
    pub commits_record : {D T E : Type 0} (on : sectors.Ghosts D) (result : Result T E) (start end : D)
        → Commits on result 2 0 (HoldsAt all.snapshot all.commands place) (HoldsAt all.snapshot (all.commands ++ command ∷ []) next) start end
        → CommitsState on result 2 state (effect state command) next start end
    commits_record on result start end is = record {
      moments = weakened on.clock on.possible_since start end _ _ (within_by _ _ _ _ held held_more 2 0 (on.calls start)) is.moments;
      after = on_ok_weaker result (all_more (on.possible end)) is.after;
    }

  module _ (new : State) (next : Place) where
    -- a commit of the next state's snapshot
    pub commits_snapshot : {D T E : Type 0} (on : sectors.Ghosts D) (result : Result T E) (start end : D)
        → Commits on result 4 2 (HoldsAt all.snapshot all.commands place) (HoldsAt new [] next) start end → CommitsState on result 4 state new next start end
    commits_snapshot on result start end is = record {
      moments = weakened on.clock on.possible_since start end _ _
          (λ m image within. unquiet _ _ 4 2 (on.calls start) m image (within_by _ _ _ _ held (held_new new next) 4 2 (on.calls start) m image within))
          is.moments;
      after = on_ok_weaker result (all_new new next (on.possible end)) is.after;
    }

-- after the fault of a commit the device is as the store's fault leaves it
module _ {D : Type 0} (old new : D) where
  pub left : (fault : StoreFault) → IsRefusedCommit fault old new → LeavesDevice (cause fault) old new
  left Spent h = h
  left OutOfMemory h = h
  left DeviceFault h = h
  left NotFormatted h = absurd h
  left BadVersion h = absurd h
  left (Codec fault) h = absurd h
